-- What is remembered stands in the words, the call is started in them, and they are answered.
use mathlib.Core.Path.{refl}
use Rattle.engine.specs.Laws.Answer.{started}
use Rattle.engine.proofs.start.Goals as goal

pub returns : goal.returns
returns c =
    started _ (c.remember.ensures refl) c.start_in.ensures c.answer.ensures
