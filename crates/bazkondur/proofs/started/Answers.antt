-- What was answered by value is kept in the words.
use Rattle.bazkondur.specs.Laws.Goes.{begun_says}
use Rattle.bazkondur.proofs.started.Goals as goal

pub returns : goal.returns
returns c =
    λ h. begun_says c.session_start-a.result c.session_at.ensures c.kept.ensures.numbers c.kept.ensures.hands (c.kept.ensures.keeps h) c.session_start-a.ensures
