-- CSW known: TAR is next. Unknown: CSW goes before it.
use Rattle.wire_memap.proofs.Tasks.{task_known, task_unknown}
use Rattle.wire_memap.proofs.task_start.Goals as goal

pub returns-then-m-eq1 : goal.returns-then-m-eq1
returns-then-m-eq1 c =
    let a = c.args in task_known a.kind a.addr a.word a.n a.last a.t.now a.m.now c.if-m-eq1.true c.access.ensures

pub returns : goal.returns
returns c =
    let a = c.args in task_unknown a.kind a.addr a.word a.n a.last a.t.now a.m.now c.if-m-eq1.false c.access-2.ensures
