-- Taken at once, or not.
use Rattle.abi_steps.specs.Laws.Takes.{at_once}
use Rattle.abi_steps.proofs.step_on.Goals as goal

pub returns-then-takes : goal.returns-then-takes
returns-then-takes c = λ h. at_once c.takes.ensures c.if-takes.true h c.told_at.ensures
