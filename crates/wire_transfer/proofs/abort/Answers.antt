-- The ABORT and the error that it tells are stored as `aborts` says.
use Rattle.wire_transfer.specs.Laws.Flight.{fails_with}
use Rattle.wire_transfer.proofs.abort.Goals as goal

pub returns : goal.returns
returns c =
    λ h. fails_with _ _ c.args.t.now c.from-told.ensures.0 h
