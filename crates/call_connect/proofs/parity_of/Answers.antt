-- A word below 2 ^ 32 has all its ones among its 32 low bits.
-- Both counts take the lowest bit first, so they agree bit by bit.
use Prim.Native.Nat.{ℕ, zero, suc, ◌+◌, ◌%◌, ◌/◌, ◌^◌, ◌<◌}
use mathlib.Core.Path.{◌≡◌, ap, ◌∙◌}
use native.Mathlib.Nat.{pow-suc}
use native.Mathlib.Omega.{arith}
use lib.Count as Count
use Rattle.call_connect.specs.Connect.{ones}
use Rattle.call_connect.proofs.parity_of.Goals as goal

same : (k w : ℕ) → w < 2 ^ k → Count.ones w ≡ ones k w
unfolding ones
same zero w h = omega (arith, Count.ones-le zero w h)
same (suc k) w h = Count.ones_step w ∙ ap (λ (n : ℕ). w % 2 + n) (same k (w / 2) (omega (arith, pow-suc 2 k)))

pub returns : goal.returns
returns c =
    ap (λ (n : ℕ). n % 2) (same 32 _ (omega arith))
