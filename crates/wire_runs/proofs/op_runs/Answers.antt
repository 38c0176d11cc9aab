-- One word more of the run, as `move_on` goes on with it.
use Rattle.wire_memap.specs.Laws.Flight.{goes_as, moved_on, good_step, runs_reads, runs_writes}
use Rattle.wire_runs.proofs.op_runs.Goals as goal

pub returns-then-phase-eq-PUSH : goal.returns-then-phase-eq-PUSH
returns-then-phase-eq-PUSH c =
    let a = c.args in moved_on (λ f. goes_as (good_step a.t.now a.m.now a.row.now a.v c.is_aborting.ensures c.if-is_aborting.false)
    (runs_writes a.t.now a.m.now a.row.now a.v _ _ c.if-phase-eq-PUSH.true c.if-n-gt1.true c.saturating_sub.ensures c.get_or-w.ensures c.direct.ensures f))

pub returns-then-phase-eq-PULL : goal.returns-then-phase-eq-PULL
returns-then-phase-eq-PULL c =
    let a = c.args in moved_on (λ f. goes_as (good_step a.t.now a.m.now a.row.now a.v c.is_aborting.ensures c.if-is_aborting.false)
    (runs_reads a.t.now a.m.now a.row.now a.v _ c.if-phase-eq-PULL.true c.if-n-gt1.true c.saturating_sub-then-phase-eq-PULL.ensures c.put.ensures c.direct-then-phase-eq-PULL.ensures f))
