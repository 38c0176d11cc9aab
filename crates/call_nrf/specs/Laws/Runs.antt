-- The runs of a program call as the code takes them: after one, less is left by the words that it wrote.
-- Serves the proofs only; both chips go the same way.
use Rattle.std.specs.Prelude.{ℕ, zero, suc, ◌-◌, ◌*◌, ◌≤◌, ◌≡◌, refl}
use Rattle.std.proofs.Common.{ap, ◌∙◌, arith}
use Rattle.wire_memap.specs.Words.{tar_run}
use Rattle.call.specs.Job.{Job, ◌>>◌}
use Rattle.call.specs.Laws.Job.{bind_assoc}
use Rattle.call_nrf.specs.Nrf.{runs, write_words}
use Rattle.call_nrf.specs.Laws.After.{programming, settling, finishing}
use Rattle.call_places.specs.declared.Chip.{Chip}
use Rattle.call_places.specs.declared.Program.{Program}

-- the words that are passed are to go no more
runs_passed : (settle : Job) (stop len left passed : ℕ) → passed ≤ left → runs settle stop len left passed ≡ runs settle stop len (left - passed) 0
unfolding runs
runs_passed settle stop len left zero h = ap (λ (n : ℕ). runs settle stop len n 0) (same left)
  where
    same : (n : ℕ) → n ≡ n - 0
    same n = omega arith
runs_passed settle stop len zero (suc passed) h = absurd (omega arith)
runs_passed settle stop len (suc left) (suc passed) h =
    runs_passed settle stop len left passed (omega arith) ∙ ap (λ (n : ℕ). runs settle stop len n 0) (less left passed)
  where
    less : (n p : ℕ) → n - p ≡ suc n - suc p
    less n p = omega arith

-- a run is of no more words than are left
pub run_within : (addr left n : ℕ) → n ≡ tar_run addr left → n - 1 ≤ left - 1
run_within addr left n e = omega arith

-- one run of n words
run_more : (settle : Job) (stop len left : ℕ) → (left ≡ 0 → ⊥) → (n : ℕ) → n ≡ tar_run (stop - 4 * left) left
    → runs settle stop len left 0 ≡ (write_words (stop - 4 * left) (len - left) n >> (settle >> runs settle stop len (left - 1 - (n - 1)) 0))
unfolding runs
run_more settle stop len zero h n e = absurd (h refl)
run_more settle stop len (suc left) h n e =
    rw (← e) (ap (λ (j : Job). write_words (stop - 4 * suc left) (len - suc left) n >> (settle >> j))
    (runs_passed settle stop len left (n - 1) (within left (run_within (stop - 4 * suc left) (suc left) n e))
    ∙ ap (λ (k : ℕ). runs settle stop len k 0) (less left (n - 1))))
  where
    within : {k : ℕ} (l : ℕ) → k ≤ suc l - 1 → k ≤ l
    within l h = omega arith

    less : (l k : ℕ) → l - k ≡ suc l - 1 - k
    less l k = omega arith

abbrev pub after : Program → ℕ → Program
after p n = record { stop = p.stop; len = p.len; left = p.left - 1 - (n - 1); polls = p.polls }

-- a chip's run, and then the words after it
pub programming_more : (chip : Chip) (p : Program) → (p.left ≡ 0 → ⊥) → (n : ℕ) → n ≡ tar_run (p.stop - 4 * p.left) p.left
    → programming chip p ≡ (write_words (p.stop - 4 * p.left) (p.len - p.left) n >> (settling chip p.polls >> programming chip (after p n)))
programming_more chip p h n e =
    ap (λ (j : Job). j >> finishing chip p.polls) (run_more (settling chip p.polls) p.stop p.len p.left h n e)
    ∙ ap (λ (j : Job). write_words (p.stop - 4 * p.left) (p.len - p.left) n >> j)
    (bind_assoc (settling chip p.polls) (λ (_ : ℕ). runs (settling chip p.polls) p.stop p.len (p.left - 1 - (n - 1)) 0)
    (λ (_ : ℕ). finishing chip p.polls))
