-- What is tried and taken is kept.
use Rattle.abi_steps.specs.Laws.Takes.{takes_one, takes_none}
use Rattle.abi_steps.proofs.taken.Goals as goal

pub returns-then-taken_in : goal.returns-then-taken_in
returns-then-taken_in g c =
    takes_one c.args.v c.args.ws.now c.args.room.now c.transfer_at-t.ensures c.op_at-m.ensures c.call_at-c.ensures c.taken_in.ensures c.if-taken_in.true c.keep_flight.ensures

pub returns : goal.returns
returns g c =
    takes_none c.args.v c.args.ws.now c.args.room.now c.transfer_at-t.ensures c.op_at-m.ensures c.call_at-c.ensures c.taken_in.ensures c.if-taken_in.false
