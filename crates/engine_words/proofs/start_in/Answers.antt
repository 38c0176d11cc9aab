-- What the call asks for first, over the words that it runs over.
use mathlib.Core.Bool.{true, false}
use mathlib.Core.Path.{refl, sym, ◌∙◌}
use native.Mathlib.Omega.{arith}
use Rattle.engine_words.specs.Laws.Step.{starts_in}
use Rattle.engine_words.proofs.start_in.Goals as goal

pub returns-then-owns : goal.returns-then-owns
returns-then-owns c =
    let a = c.args in starts_in 1 true a.x _ a.t.now a.m.now a.c.now a.room.now a.words.now a.buf.now (omega arith) refl
    (sym c.owns.ensures ∙ c.if-owns.true) c.call_start-a.ensures c.asked.ensures refl

pub returns : goal.returns
returns c =
    let a = c.args in starts_in 0 false a.x _ a.t.now a.m.now a.c.now a.room.now a.words.now a.buf.now (omega arith) refl
    (sym c.owns.ensures ∙ c.if-owns.false) c.call_start-a.ensures c.asked-2.ensures refl
