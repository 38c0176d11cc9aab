-- The numbers and the bytes are those of the call that is due.
use Rattle.abi_steps.specs.Laws.Takes.{told_as}
use Rattle.abi_steps.proofs.told.Goals as goal

pub returns : goal.returns
returns c =
    told_as c.args.ws.now c.transfer_at.ensures c.due-call.ensures (record { numbers = c.call_due.ensures; hands = c.bytes_of.ensures })
