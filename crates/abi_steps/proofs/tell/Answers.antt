-- By how the call stands.
use mathlib.Core.Path.{sym, ap, ◌∙◌}
use Rattle.engine_words.specs.Status.{running}
use Rattle.abi_steps.specs.Laws.Takes.{tells_due, tells_end}
use Rattle.abi_steps.proofs.tell.Goals as goal

pub returns-then-is_running : goal.returns-then-is_running
returns-then-is_running c =
    tells_due _ _ _ (ap running (sym c.call_at-c.ensures) ∙ sym c.is_running.ensures ∙ c.if-is_running.true) c.told.ensures

pub returns : goal.returns
returns c =
    tells_end c.args.ws.now _ _ (ap running (sym c.call_at-c.ensures) ∙ sym c.is_running.ensures ∙ c.if-is_running.false) (rw c.call_at-c.ensures at c.ending-e.ensures) (c.plain.ensures.0 ∙ c.ended.ensures) c.plain.ensures.1
