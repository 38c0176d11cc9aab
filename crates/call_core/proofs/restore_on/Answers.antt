-- With a register left `restoring_more` takes one off, and its value is the room's.
use mathlib.Core.Path.{◌∙◌}
use Rattle.call_core.specs.Laws.Turns.{restoring_more}
use Rattle.call_core.proofs.restore_on.Goals as goal

pub returns : goal.returns
returns c =
    let a = c.args in
    restoring_more a.left c.if-left-eq0.false a.value ∙ (rw c.saturating_sub-i.ensures at c.register_set.ensures)
