-- The texts of the parts, one behind the other.
use Rattle.std.proofs.Common.{rules}
use Rattle.script_lines.specs.Laws.Lines.{adds_then}
use Rattle.script_lines.proofs.Lines.result.Goals as goal

pub returns : goal.returns
returns c = (
  adds_then (rw c.from.ensures at c.decimal.ensures.0) (adds_then c.field.ensures.0 c.put.ensures),
  search rules,
)
