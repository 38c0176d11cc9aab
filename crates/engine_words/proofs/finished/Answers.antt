-- At step 0 the outcome is the call's; else the call asks for what follows it.
use Rattle.engine_words.specs.Laws.Step.{finish_ends, finish_asks}
use Rattle.engine_words.proofs.finished.Goals as goal

pub returns-then-c-eq0 : goal.returns-then-c-eq0
returns-then-c-eq0 c =
    let a = c.args in finish_ends a.o a.t.now a.m.now a.c.now _ a.ws.now a.buf.now c.if-c-eq0.true c.over.ensures

pub returns : goal.returns
returns c =
    let a = c.args in finish_asks a.o a.t.now a.m.now a.c.now a.ws.now a.buf.now _
    c.at_of-at.ensures c.call_after.ensures c.asked.ensures
