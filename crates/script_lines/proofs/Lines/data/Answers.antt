-- The texts of the parts, one behind the other.
use Rattle.std.proofs.Common.{rules}
use Rattle.script_lines.specs.Laws.Lines.{adds_then}
use Rattle.script_lines.proofs.Lines.data.Goals as goal

pub returns : goal.returns
returns g c = (adds_then c.data_start.ensures.0 (adds_then c.hex_each.ensures.0 c.put.ensures), search rules)
