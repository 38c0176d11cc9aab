-- Taken at once, or by the engine's own step.
use Rattle.abi_steps.specs.Laws.Takes.{at_once}
use Rattle.abi_steps.proofs.step.Goals as goal

pub returns-then-takes : goal.returns-then-takes
returns-then-takes c = λ h. at_once c.takes.ensures c.if-takes.true h c.told_at.ensures
