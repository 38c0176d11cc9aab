-- With a register left `setting_more` takes one off, and its value is the room's.
use mathlib.Core.Path.{◌∙◌}
use Rattle.call_core.specs.Laws.Turns.{setting_more}
use Rattle.call_core.proofs.set_on.Goals as goal

pub returns : goal.returns
returns c =
    let a = c.args in
    setting_more a.left c.if-left-eq0.false a.plan ∙ (rw c.saturating_sub-i.ensures at c.register_set.ensures)
