-- The digits above the last one are put by the call of itself, with one place less; then the last one is put behind them.
use Rattle.std.proofs.Common.{rules, arith}
use Rattle.script_lines.specs.Laws.Lines.{adds_none, adds_then}
use Rattle.script_lines.specs.Laws.Text.{hex_none, hex_more}
use Rattle.script_lines.proofs.Lines.+hex.Goals as goal

pub returns-then-k-eq0 : goal.returns-then-k-eq0
returns-then-k-eq0 t c = (rw c.if-k-eq0.true (rw (hex_none c.args.n) adds_none), omega arith)

pub returns : goal.returns
returns t c = (
  rw (hex_more c.args.k c.args.n (search rules)) (adds_then c.hex.ensures.0
      (rw c.digit_of.ensures at c.put.ensures)),
  omega (arith, c.hex.ensures.1, c.put.ensures.puts.place),
)
