-- TAR is written once CSW is known.
use Rattle.wire_memap.proofs.Tasks.{tar_begins}
use Rattle.wire_step.proofs.tar_on.Goals as goal

pub returns : goal.returns
returns c =
    let a = c.args in tar_begins a.t.now a.m.now c.access.ensures
