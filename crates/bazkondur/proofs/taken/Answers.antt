use Rattle.bazkondur.specs.Laws.Goes.{takes_one}
use Rattle.bazkondur.proofs.taken.Goals as goal

pub returns-then-taken : goal.returns-then-taken
returns-then-taken g c = takes_one (c.may_go_on.ensures c.if-may_go_on.true) c.left_after-left.ensures c.taken.ensures c.if-taken.true
