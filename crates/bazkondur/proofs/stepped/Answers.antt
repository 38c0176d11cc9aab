-- What was answered by value is kept in the words.
use Rattle.bazkondur.specs.Laws.Goes.{goes_says}
use Rattle.bazkondur.proofs.stepped.Goals as goal

pub returns : goal.returns
returns c =
    λ h. goes_says c.session_step-a.result c.session_at.ensures c.kept.ensures.numbers c.kept.ensures.hands (c.kept.ensures.keeps h) (rw c.answer_at-answer.ensures at c.session_step-a.ensures)
