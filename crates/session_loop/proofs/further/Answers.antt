-- What a step ensures is one answer more of a trail.
use Rattle.session_trail.specs.Trail.{more}
use Rattle.session_loop.proofs.further.Goals as goal

pub returns : goal.returns
returns c = λ s₀ o l₀ answers seen last x t n. more _ t n c.session_step.ensures
