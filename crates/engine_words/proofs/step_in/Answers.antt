-- A call under way takes its step over the words that it runs over; one that has ended takes none.
use mathlib.Core.Bool.{true, false}
use mathlib.Core.Path.{refl}
use borrow.Author.Tests.{lt-ltb}
use Rattle.engine_words.specs.Laws.Step.{steps_in, own_words, own_row}
use Rattle.engine_words.proofs.step_in.Goals as goal

pub returns-then-stands-eq1 : goal.returns-then-stands-eq1
returns-then-stands-eq1 c =
    let a = c.args in steps_in true a.a a.t.now a.m.now a.c.now a.room.now a.words.now a.buf.now
    (lt-ltb _ _ c.if-stands-lt-ENDED.true) (own_words a.c.now c.if-stands-eq1.true) c.step_over.ensures refl

pub returns-else-stands-eq1 : goal.returns-else-stands-eq1
returns-else-stands-eq1 c =
    let a = c.args in steps_in false a.a a.t.now a.m.now a.c.now a.room.now a.words.now a.buf.now
    (lt-ltb _ _ c.if-stands-lt-ENDED.true) (own_row a.c.now c.if-stands-lt-ENDED.true c.if-stands-eq1.false) c.step_over-then-stands-lt-ENDED.ensures refl
