-- What the increment of TAR keeps: whatever the width, the next TAR is a word, and within 1 KiB from ten bits on it is 4 more.
-- Serves the proofs only.
use Rattle.std.specs.Prelude.{◌≡◌, ℕ, ◌+◌, ◌-◌, ◌*◌, ◌/◌, ◌%◌, ◌^◌, min, ◌≤◌, ◌<◌}
use Rattle.std.proofs.Common.{mod-lt, mod-eq_of_lt, div-mul-le_self, arith, pow_pos, pow-add, shr_lt}
use Rattle.std.proofs.Math.Nat.{mod-le}
use Rattle.std.proofs.Math.Pow.{split, mod-mod-pow}
use Rattle.std.proofs.Math.Arith.{digits_lt}

pub record Spanned (s tar : ℕ) : Type 0 where
  pub positive : 0 < s
  pub high : tar / s * s ≤ tar
  pub low : tar % s ≤ tar
  pub fits : tar / s * s + (tar % s + 4) % s < 4294967296

below : (k tar : ℕ) → k ≤ 32 → tar < 4294967296 → Spanned (2 ^ k) tar
below k tar l h =
    let e : 32 - k + k ≡ 32 = omega arith in
    let p : 2 ^ 32 ≡ 2 ^ (32 - k) * 2 ^ k = rw e at (pow-add 2 (32 - k) k) in
    record {
      positive = pow_pos k;
      high = div-mul-le_self tar (2 ^ k);
      low = mod-le tar (2 ^ k);
      fits = rw p (digits_lt (shr_lt (32 - k) k (rw e h)) (mod-lt (tar % 2 ^ k + 4) (pow_pos k)));
    }

pub spanned : (width tar s : ℕ) → tar < 4294967296 → s ≡ 2 ^ min width 32 → Spanned s tar
spanned width tar s h e = rw e (below (min width 32) tar (omega arith) h)

-- A span of ten bits or more is a multiple of 1024: where 1 KiB does not end, nothing is carried out of the low bits.
pub goes_on : (width tar s : ℕ) → 10 ≤ width → s ≡ 2 ^ min width 32 → tar % 1024 + 4 < 1024 → tar / s * s + (tar % s + 4) % s ≡ tar + 4
goes_on width tar s w e h = let k : min width 32 - 10 + 10 ≡ min width 32 = omega arith in rw (e, ← k) (go (min width 32 - 10))
  where
    -- below a multiple of 1024, and not at the end of 1 KiB
    room : (q span low : ℕ) → span ≡ q * 1024 → low < span → low % 1024 ≡ tar % 1024 → low + 4 < span
    room q span low m l r = omega arith

    go : (j : ℕ) → tar / 2 ^ (j + 10) * 2 ^ (j + 10) + (tar % 2 ^ (j + 10) + 4) % 2 ^ (j + 10) ≡ tar + 4
    go j =
        rw (mod-eq_of_lt (room (2 ^ j) _ _ (pow-add 2 j 10) (mod-lt tar (pow_pos (j + 10))) (mod-mod-pow tar j 10)))
        (omega (arith, split tar (j + 10)))
