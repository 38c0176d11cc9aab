-- Numbers, as several crates meet them. Serves the proofs only.
use Rattle.std.specs.Prelude.{ℕ, suc, ◌-◌, ◌≡◌}
use Rattle.std.proofs.Common.{arith}

-- a definition goes down by `suc`, the code by taking one off
pub less : (n : ℕ) → n ≡ suc n - 1
less n = omega arith
