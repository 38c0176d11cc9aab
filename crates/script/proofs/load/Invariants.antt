-- The places below k are filled; each turn fills one.
use Rattle.std.proofs.Common.{take}
use Rattle.script.specs.Laws.Loads.{Row}
use Rattle.script.proofs.load.Given as goal

abbrev pub invariant-loop-k : goal.invariant-loop-k
invariant-loop-k g l = Row (λ k x. goal.F-post g l.read k x) l.size l.i (take l.k l.xs)
