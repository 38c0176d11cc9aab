-- The items before the next one are put; each turn puts one.
use Rattle.std.proofs.Common.{arith}
use Rattle.script_lines.specs.Text.{hex, together}
use Rattle.script_lines.specs.Laws.Lines.{adds_none, adds_then}
use Rattle.script_lines.specs.Laws.Text.{together_more}
use Rattle.script_lines.proofs.Lines.hex_each.Goals as goal

pub loop-x-init : goal.loop-x-init
unfolding together
loop-x-init g c = (adds_none, omega arith)

pub loop-x-preserved : goal.loop-x-preserved
loop-x-preserved g c = (
  rw (together_more (λ x. hex g.T.Hex.DIGITS (g.T.Hex.number x)) c.args.xs.now c.loop-x.x-index c.x-item.result c.loop-x-test.true c.x-item.is)
      (adds_then c.loop-x.invariant.0 (rw (c.DIGITS.ensures, c.number.ensures) at c.hex.ensures.0)),
  grind (arith, c.loop-x.invariant.1, c.hex.ensures.1, c.DIGITS.ensures),
)
