-- The digits above the last one are put by the call of itself, with one place less; then the last one is put behind them.
use Rattle.std.proofs.Common.{rules, arith}
use Rattle.script_lines.specs.Laws.Lines.{adds_none, adds_then}
use Rattle.script_lines.specs.Laws.Text.{digits_none, digits_few, digits_more}
use Rattle.script_lines.proofs.Lines.+digits.Goals as goal

pub returns-then-k-eq0 : goal.returns-then-k-eq0
returns-then-k-eq0 t c = (rw c.if-k-eq0.true (rw (digits_none c.args.n) adds_none), omega arith)

pub returns-then-n-lt10 : goal.returns-then-n-lt10
returns-then-n-lt10 t c = (
  rw (digits_few c.args.k c.args.n (search rules) (search rules)) (rw c.digit_of.ensures at c.put.ensures),
  omega (arith, c.put.ensures.puts.place),
)

pub returns : goal.returns
returns t c = (
  rw (digits_more c.args.k c.args.n (search rules) (search rules)) (adds_then c.digits.ensures.0
      (rw c.digit_of-2.ensures at c.put-2.ensures)),
  omega (arith, c.digits.ensures.1, c.put-2.ensures.puts.place),
)
