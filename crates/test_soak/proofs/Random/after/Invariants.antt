-- Each turn draws one number more.
use Rattle.std.proofs.Common.{◌≡◌}
use Rattle.test_soak.specs.Drawn.{drawn}
use Rattle.test_soak.proofs.Random.after.Given as goal

abbrev pub invariant-loop : goal.invariant-loop
invariant-loop l = l.x.0 ≡ drawn l.fn.self.0 l.counter
