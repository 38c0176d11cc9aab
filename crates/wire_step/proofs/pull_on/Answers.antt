-- RDBUFF is the last read; before it stands one word more.
use Rattle.wire_memap.specs.Laws.Flight.{pull_ends, pull_goes}
use Rattle.wire_step.proofs.pull_on.Goals as goal

pub returns-then-more-eq0 : goal.returns-then-more-eq0
returns-then-more-eq0 c =
    let a = c.args in pull_ends a.t.now a.m.now a.more c.if-more-eq0.true c.direct.ensures

pub returns : goal.returns
returns c =
    let a = c.args in pull_goes a.t.now a.m.now a.more c.if-more-eq0.false c.direct-2.ensures
