-- The lines of the calls before place i are put; each turn puts one.
use Rattle.std.proofs.Common.{arith}
use Rattle.script_lines.specs.Listing.{call_lines}
use Rattle.script_lines.specs.Laws.Lines.{adds_none, adds_then}
use Rattle.script_lines.specs.Laws.Text.{lines_more}
use Rattle.script_lines.proofs.Lines.calls.Goals as goal

pub loop-i-init : goal.loop-i-init
unfolding call_lines
loop-i-init c = (adds_none, omega (arith, c.requires.0))

pub loop-i-preserved : goal.loop-i-preserved
loop-i-preserved c = (
  rw (lines_more c.args.log.now c.loop-i.i c.loop-i-test.true)
      (adds_then c.loop-i.invariant.0 (rw c.call_of.ensures at c.line.ensures.0)),
  omega (arith, c.loop-i.invariant.1, c.line.ensures.1),
)
