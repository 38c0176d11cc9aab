-- The items before the next one are put; each turn puts one.
use Rattle.std.proofs.Common.{◌≡◌, ◌+◌, ◌*◌, take}
use Rattle.script_lines.specs.Text.{hex, together}
use Rattle.script_lines.specs.Laws.Lines.{Adds}
use Rattle.script_lines.proofs.Lines.hex_each.Given as goal

abbrev pub invariant-loop-x : goal.invariant-loop-x
invariant-loop-x g l =
    Adds l.initial.self (together (λ x. hex g.T.Hex.DIGITS (g.T.Hex.number x)) (take l.x-index l.xs)) l.self
    × (l.self.at ≡ l.initial.self.at + g.T.Hex.DIGITS * l.x-index)
