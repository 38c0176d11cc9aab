-- The three rows are stored one after the other, each in its place.
use Rattle.std.proofs.Common.{rules}
use Rattle.abi_words.specs.Laws.Kept.{keeps_state}
use Rattle.abi_words.proofs.keep_words.Goals as goal

pub returns : goal.returns
returns c = λ h.
    rw (c.keep_call.ensures, c.keep_op.ensures, c.keep_transfer.ensures)
    (keeps_state (record { transfer = c.args.t; op = c.args.m; call = c.args.c }) (search (rules, c.well_formed)) (search (rules, c.well_formed))
    (search (rules, c.well_formed)) c.args.ws.now h)
