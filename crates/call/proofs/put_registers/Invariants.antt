-- To be put are the registers from i on, in the places from `at` + i on.
use Rattle.std.proofs.Common.{◌≡◌, ◌+◌, drop}
use Rattle.std.proofs.lemmas.List.Edits.{sets}
use Rattle.call.proofs.put_registers.Given as goal

abbrev pub invariant-loop-i : goal.invariant-loop-i
invariant-loop-i l = sets l.row (l.at + l.i) (drop l.i l.registers) ≡ sets l.initial.row l.at l.registers
