-- The call is started over a room of zeros and the words that are lent, run to its end, and the frame that it leaves handed over.
use mathlib.Core.Path.{refl}
use Rattle.engine_run.specs.Laws.Runs.{run_ran, started_in}
use Rattle.engine_run.proofs.run.Goals as goal

pub returns : goal.returns
returns c =
    let a = c.args in
    run_ran a.x a.r a.budget _ a.answers.now a.frame.now a.words.now a.buf.now a.log.now _ _ _ _ _
    c.leaves_frame-leaves.ensures c.limit_of-limit.ensures.0 refl c.ending_of-e.ensures c.remembered.ensures
    (c.run_on-n.ensures _ _ _ _
    (started_in a.x a.r _ _ a.words.now a.buf.now (c.remember.ensures refl) c.start_in.ensures))
    c.frame_left.ensures
