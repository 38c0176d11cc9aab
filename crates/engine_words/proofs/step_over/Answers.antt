-- The operation goes on, or it is over, and the call with its outcome.
use Rattle.engine_words.specs.Laws.Step.{step_finishes}
use Rattle.engine_words.proofs.step_over.Goals as goal

pub returns-in-Some : goal.returns-in-Some
returns-in-Some c =
    let a = c.args in step_finishes a.a a.t.now a.m.now a.c.now a.ws.now a.buf.now _
    c.in-Some.is c.op_step.ensures c.finished.ensures
