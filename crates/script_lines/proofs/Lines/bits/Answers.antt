-- The texts of the parts, one behind the other.
use Rattle.std.proofs.Common.{rules}
use Rattle.script_lines.specs.Laws.Lines.{adds_then}
use Rattle.script_lines.proofs.Lines.bits.Goals as goal

pub returns : goal.returns
returns c = (
  adds_then c.put.ensures (adds_then c.put-2.ensures (adds_then (rw c.from.ensures at c.decimal.ensures.0)
      (adds_then c.put-3.ensures c.hex_each.ensures.0))),
  search rules,
)
