-- The turn is the one that the two tests say (Turns), and `move_bytes` or `move_run` ensures it.
use mathlib.Core.Path.{◌∙◌}
use Rattle.call_memory.specs.Laws.Turns.{turn_run, turn_short, turn_ragged}
use Rattle.call_memory.proofs.mem_on.Goals as goal

pub returns-then-addr-ne0-clause-turn : goal.returns-then-addr-ne0-clause-turn
returns-then-addr-ne0-clause-turn c =
    let a = c.args in
    turn_ragged a.read a.stop a.len a.left c.if-left-eq0.false _ c.saturating_sub-addr.ensures _ c.if-addr-ne0.true c.min.ensures ∙ c.move_bytes.ensures.turn

pub returns-then-left-lt4-clause-turn : goal.returns-then-left-lt4-clause-turn
returns-then-left-lt4-clause-turn c =
    let a = c.args in
    turn_short a.read a.stop a.len a.left c.if-left-eq0.false _ c.saturating_sub-addr.ensures _ c.if-addr-ne0.false c.if-left-lt4.true c.min.ensures
    ∙ c.move_bytes-then-left-lt4.ensures.turn

pub returns-clause-turn : goal.returns-clause-turn
returns-clause-turn c =
    let a = c.args in
    turn_run a.read a.stop a.len a.left c.if-left-eq0.false _ c.saturating_sub-addr.ensures _ c.if-addr-ne0.false c.if-left-lt4.false c.run_words-n.ensures
    ∙ c.move_run.ensures.turn
