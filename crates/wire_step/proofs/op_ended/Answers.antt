-- A value that an access follows goes to `move_on`; any other ends the operation, and so does an error.
use mathlib.Core.Path.{sym, ◌∙◌}
use Rattle.wire_memap.specs.Laws.Flight.{ends_with}
use Rattle.wire_step.proofs.op_ended.Goals as goal

pub returns-else-follows : goal.returns-else-follows
returns-else-follows c =
    λ f. ends_with f (λ b k. simp c.in-Ok.is
    (c.last_value-last.ensures (sym c.follows.ensures ∙ c.if-follows.false) b k))
