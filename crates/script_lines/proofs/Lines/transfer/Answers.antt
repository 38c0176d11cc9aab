-- The texts of the parts, one behind the other.
use Rattle.std.proofs.Common.{rules}
use Rattle.script_lines.specs.Laws.Lines.{adds_then}
use Rattle.script_lines.proofs.Lines.transfer.Goals as goal

pub returns : goal.returns
returns c = (
  adds_then c.put.ensures (adds_then (rw c.from.ensures at c.field.ensures.0) c.field-2.ensures.0),
  search rules,
)
