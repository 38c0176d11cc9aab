-- A count below 65 is taken up by one, and one of 65 or more is the last.
use Rattle.wire_transfer.specs.Laws.Flight.{waits_no_more, waits_again}
use Rattle.wire_transfer.proofs.waited.Goals as goal

pub returns-then-tries-ge-MOST : goal.returns-then-tries-ge-MOST
returns-then-tries-ge-MOST c =
    λ h. waits_no_more c.args.t.now h c.if-tries-ge-MOST.true

pub returns : goal.returns
returns c =
    λ h. waits_again c.args.t.now h c.if-tries-ge-MOST.false
