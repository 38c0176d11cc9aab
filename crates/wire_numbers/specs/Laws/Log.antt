-- An answer by its number. Serves the proofs only.
use Rattle.std.specs.Prelude.{ℕ, ◌/◌, ◌%◌, ◌<◌, ◌≡◌, Ok}
use Rattle.std.proofs.Common.{arith}
use Rattle.wire_numbers.specs.Log.{answer_of}

-- a number below 2^32 is the answer Ok with that word
pub good_answer_lem : (x : ℕ) → x < 0x100000000 → Ok x ≡ answer_of x
good_answer_lem x h =
    let k : x / 0x100000000 ≡ 0 = omega arith in
    let v : x % 0x100000000 ≡ x = omega arith in
    simp (k, v)
