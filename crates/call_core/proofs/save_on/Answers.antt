-- With no register left the trampoline is planted. Otherwise `saving_more` takes one off; `change` stands before both.
use mathlib.Core.Path.{ap, ◌∙◌}
use Rattle.call.specs.Laws.Asks.{keep_some}
use Rattle.call_core.specs.Laws.Turns.{saving_more}
use Rattle.call_core.specs.Function.{save_regs}
use Rattle.call_core.proofs.save_on.Goals as goal

pub returns-then-left-eq0 : goal.returns-then-left-eq0
unfolding save_regs
returns-then-left-eq0 c =
    simp c.if-left-eq0.true c.writing.ensures

pub returns : goal.returns
returns c =
    let a = c.args in
    ap (keep_some a.change) (saving_more a.left c.if-left-eq0.false a.plan)
    ∙ (rw (c.from.ensures, c.register_at-reg.ensures, c.saturating_sub.ensures) at c.writing-2.ensures)
