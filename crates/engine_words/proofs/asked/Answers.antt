-- The place in the call is stored, the change made, and what is asked for begun.
use Rattle.engine_words.specs.Laws.Step.{asks_in}
use Rattle.engine_words.proofs.asked.Goals as goal

pub returns : goal.returns
returns c =
    let a = c.args in asks_in a.a a.t.now a.m.now a.c.now a.ws.now a.buf.now _ _ _ _ _ _ _
    c.store_at.ensures c.change.ensures c.begun.ensures
