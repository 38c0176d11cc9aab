-- The operation is in flight, or the words tell the end.
use Rattle.engine_words.specs.Laws.Step.{next_does, next_ends}
use Rattle.engine_words.proofs.begun.Goals as goal

pub returns-in-Do : goal.returns-in-Do
returns-in-Do c =
    let a = c.args in simp c.in-Do.is (next_does _ a.t.now a.m.now a.c.now _ _ c.op_start.ensures)

pub returns-in-End : goal.returns-in-End
returns-in-End c =
    let a = c.args in simp c.in-End.is (next_ends _ a.t.now a.m.now a.c.now _ c.over.ensures)
