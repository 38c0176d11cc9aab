-- The lines of the calls before place i are put; each turn puts one.
use Rattle.std.proofs.Common.{◌≤◌, ◌*◌, take, map}
use Rattle.wire_numbers.specs.Log.{call_of}
use Rattle.script_lines.specs.Listing.{call_lines}
use Rattle.script_lines.specs.Laws.Lines.{Adds}
use Rattle.script_lines.proofs.Lines.calls.Given as goal

abbrev pub invariant-loop-i : goal.invariant-loop-i
invariant-loop-i l = Adds l.initial.self (call_lines 1 (map call_of (take l.i l.log))) l.self × (l.self.at ≤ 57 * l.i)
