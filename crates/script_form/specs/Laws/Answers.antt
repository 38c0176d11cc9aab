-- The records of answers one by one. Serves the proofs.
use Rattle.std.specs.Prelude.{ℕ, suc, ◌+◌, ◌-◌, ◌*◌, ◌<◌, ◌≤◌, true, ◌&&◌, ◌≡◌, refl, List}
use Rattle.std.proofs.Common.{arith}
use Rattle.script_form.specs.Script.{good_answer, good_answers}

-- of n records k are tested, and no more are left
pub good_none : (xs : List ℕ) (n k i : ℕ) → n ≤ k → good_answers xs (n - k) i ≡ true
unfolding good_answers
good_none xs n k i le =
    let e : n - k ≡ 0 = omega arith in
    rw e refl

-- of n records k are tested, and one more
pub good_more : (xs : List ℕ) (n k i : ℕ) → k < n
    → good_answers xs (n - k) (i + 7 * k) ≡ (good_answer xs (i + 7 * k) && good_answers xs (n - (k + 1)) (i + 7 * (k + 1)))
unfolding good_answers
good_more xs n k i lt =
    let e : n - k ≡ suc (n - (k + 1)) = omega arith in
    let f : i + 7 * (k + 1) ≡ i + 7 * k + 7 = omega arith in
    rw (e, f) refl
