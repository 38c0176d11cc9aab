-- What a state stands for. Serves the proofs only: that it is the right tree is what `start` and `step` show.
use Rattle.std.specs.Prelude.{ℕ, List}
use Rattle.wire.specs.Wire.{Wire}
use Rattle.engine_words.specs.Laws.State.{words_tree}
use Rattle.engine.specs.declared.State.{State}

abbrev pub state_tree : State → List ℕ → List ℕ → Wire
state_tree s ws b = words_tree s.transfer s.op s.call ws b
