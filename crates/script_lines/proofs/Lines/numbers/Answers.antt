-- The texts of the parts, one behind the other.
use Rattle.std.proofs.Common.{rules}
use Rattle.script_lines.specs.Laws.Lines.{adds_then}
use Rattle.script_lines.proofs.Lines.numbers.Goals as goal

pub returns : goal.returns
returns c = (
  adds_then c.decimal.ensures.0 (adds_then c.put.ensures (adds_then c.call.ensures.0 c.put-2.ensures)),
  search rules,
)
