-- Where no call is under way the step is refused. Else it is the step of that call.
use Rattle.std.proofs.Common.{inl, inr}
use Rattle.session_steps.proofs.session_step.Goals as goal

pub returns-in-Closed : goal.returns-in-Closed
returns-in-Closed c = elim c.in-Closed.is [ inl e ↦ simp e (c.refused.ensures _ _ _) | inr e ↦ simp e (c.refused.ensures _ _ _) ]
