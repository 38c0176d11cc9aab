use Rattle.std.proofs.Common.{rules}
use Rattle.abi_words.specs.Laws.Kept.{keeps_flight}
use Rattle.abi_words.proofs.keep_flight.Goals as goal

pub returns : goal.returns
returns c = λ h. rw (c.keep_op.ensures, c.keep_transfer.ensures)
    (keeps_flight c.args.t c.args.m (search (rules, c.well_formed)) (search (rules, c.well_formed)) c.args.ws.now h)
