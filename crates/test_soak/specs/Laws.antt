-- The numbers that are drawn, one by one. Serves the proofs.
use Rattle.std.specs.Prelude.{ℕ, suc, ◌≡◌, ◌+◌, ◌*◌, ◌%◌, refl}
use Rattle.std.proofs.Common.{arith}
use Rattle.test_soak.specs.Drawn.{drawn}

pub drawn_none : (x : ℕ) → drawn x 0 ≡ x
unfolding drawn
drawn_none x = refl

pub drawn_more : (x k : ℕ) → drawn x (k + 1) ≡ drawn x k * 1588635695 % 4294967291
unfolding drawn
drawn_more x k =
    let e : k + 1 ≡ suc k = omega arith in
    rw e refl
