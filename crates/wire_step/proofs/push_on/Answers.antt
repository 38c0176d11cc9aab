-- RDBUFF is the last; before it goes one word more of the row.
use mathlib.Core.Path.{ap, ◌∙◌}
use Rattle.wire_memap.specs.Laws.Flight.{push_ends, push_goes}
use lib.ListN.{get_or}
use Rattle.wire_step.proofs.push_on.Goals as goal

pub returns-then-more-eq0 : goal.returns-then-more-eq0
returns-then-more-eq0 c =
    let a = c.args in push_ends a.t.now a.m.now a.row.now a.more c.if-more-eq0.true c.direct.ensures

pub returns : goal.returns
returns c =
    let a = c.args in push_goes a.t.now a.m.now a.row.now a.more _ c.if-more-eq0.false
    (c.get_or-v.ensures ∙ ap (λ i. get_or a.row.now i 0) c.saturating_sub.ensures) c.direct-2.ensures
