-- Each phase that ends an operation is a row of the table.
use Rattle.wire_memap.specs.Laws.Flight.{ends_unit}
use Rattle.wire_step.proofs.last_value.Goals as goal

pub returns-else-phase-eq-LAST_READ : goal.returns-else-phase-eq-LAST_READ
returns-else-phase-eq-LAST_READ c =
    λ h. let a = c.args in ends_unit a.m.now a.row.now a.v c.if-phase-eq-ONLY.false c.if-phase-eq-LAST_READ.false h
