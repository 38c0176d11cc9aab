-- The call in flight is noted, and its answer taken: a value at once where an access follows it, and any other answer by the step.
use mathlib.Core.Path.{refl}
use Rattle.engine_words.specs.Laws.Step.{stepped_from}
use Rattle.engine_run.specs.Laws.Runs.{turns_by}
use Rattle.engine_run.proofs.turn.Goals as goal

pub returns-then-takes_in : goal.returns-then-takes_in
returns-then-takes_in c =
    let a = c.args in turns_by a.i a.answers.now a.t.now a.m.now a.c.now a.room.now a.words.now a.buf.now a.log.now _
    c.note_due.ensures refl
    (c.takes_in.ensures.moved c.if-takes_in.true _ _)

pub returns : goal.returns
returns c =
    let a = c.args in turns_by a.i a.answers.now a.t.now a.m.now a.c.now a.room.now a.words.now a.buf.now a.log.now _
    c.note_due.ensures c.answer_of.ensures
    (stepped_from _ a.t.now a.m.now a.c.now a.room.now a.words.now a.buf.now (c.takes_in.ensures.stays c.if-takes_in.false) c.step_in.ensures)
