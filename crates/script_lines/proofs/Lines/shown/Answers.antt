-- The line `D` of the buffer that is shown.
use Rattle.std.proofs.Common.{arith}
use Rattle.script_lines.proofs.Lines.shown.Goals as goal

pub returns-in-Words : goal.returns-in-Words
returns-in-Words c = (rw c.in-Words.is c.data.ensures.0, omega (arith, c.data.ensures.1))

pub returns-in-Bytes : goal.returns-in-Bytes
returns-in-Bytes c = (rw c.in-Bytes.is c.data-in-Bytes.ensures.0, omega (arith, c.data-in-Bytes.ensures.1))
