-- Call 25 is call 23 that goes on with its second half: `call_is`.
use mathlib.Core.Path.{◌∙◌}
use Rattle.call_core.specs.Laws.Turns.{call_is}
use Rattle.call_core.specs.Function.{core_job}
use Rattle.call_core.proofs.start.Goals as goal

pub returns-in-CallFunction : goal.returns-in-CallFunction
unfolding core_job
returns-in-CallFunction c =
    simp c.in-CallFunction.is (call_is _ _ ∙ c.begin-in-CallFunction.ensures)
