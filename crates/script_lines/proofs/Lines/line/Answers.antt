-- The numbers of a transport call have its line.
use Rattle.std.proofs.Common.{rules}
use Rattle.script_lines.specs.Laws.Numbers.{numbers_line_lem}
use Rattle.script_lines.proofs.Lines.line.Goals as goal

pub returns : goal.returns
returns c = (
  rw (numbers_line_lem _ c.args.c _ _ c.numbers_of.ensures c.bytes_of.ensures) at c.numbers.ensures.0,
  search rules,
)
