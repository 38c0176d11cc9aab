-- What a start ensures is where a trail begins.
use Rattle.session_trail.specs.Trail.{begun}
use Rattle.session_loop.proofs.begin.Goals as goal

pub returns : goal.returns
returns c = begun c.session_start.ensures
