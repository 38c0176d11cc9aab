-- The numbers of a transport call have its line.
use Rattle.std.proofs.Common.{rules}
use Rattle.script_lines.specs.Laws.Numbers.{numbers_line_lem}
use Rattle.script_lines.proofs.put_made.Goals as goal

pub returns : goal.returns
returns c = ((λ made hn hb. rw (← numbers_line_lem c.args.number made _ _ hn hb) (search rules)), search rules)
