-- One word says whose words a call runs over, and no tree depends on that.
use Rattle.engine.specs.Laws.Answer.{over_room_is}
use Rattle.std.proofs.Common.{rules}
use Rattle.engine.proofs.over_room.Goals as goal

pub returns : goal.returns
returns c =
    let s = c.args.s in simp c.over_room.ensures (over_room_is s.transfer s.op s.call (search (rules, c.well_formed)))
