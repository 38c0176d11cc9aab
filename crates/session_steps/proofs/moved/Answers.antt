-- The engine's step reports the tree that follows the answer. Whether a call was lost by now is what was known before or what the
-- answer shows.
use mathlib.Core.Path.{refl}
use Rattle.session.specs.Laws.Ends.{settles}
use Rattle.session_steps.specs.Laws.Starts.{steps_room, answers_as}
use Rattle.session_steps.proofs.moved.Goals as goal

pub returns : goal.returns
returns c =
    let x = steps_room c.args.s.state c.over_room.ensures c.step-x.ensures in
    answers_as refl (c.lost_by-by_now.ensures _ _) c.left_after-left.ensures x.kept (settles _ _ _ _ _ _ _ _ _ x.steps c.settled.ensures)
