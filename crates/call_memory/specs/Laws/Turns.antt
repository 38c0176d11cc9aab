-- The turns of read_mem and write_mem as the code takes them: after one, less is left by the bytes that it moved.
-- Serves the proofs only; reading and writing go the same way.
use Prim.Native.Nat.{ℕ, zero, suc, ◌-◌, ◌*◌, ◌/◌, ◌%◌, ◌≤◌, ◌<◌}
use Rattle.std.specs.Prelude.{Bool, ◌≡◌}
use Rattle.std.proofs.Math.Path.{refl}
use Rattle.std.proofs.Common.{ap, ◌∙◌, arith, eq-eqb, ne_eqb, le-leb}
use Rattle.std.proofs.Math.Decide.{dec_lt, ℕ_discrete}
use Rattle.std.proofs.lemmas.Bool.{lt-leb}
use Rattle.call.specs.Job.{Job, ◌>>◌}
use Rattle.call_memory.specs.Memory.{turns, mem_from, turn, moved, move_words, move_part, run_words, part_bytes}

-- n words, or `count` bytes of one, and then `next` with the bytes that were moved
abbrev pub move_run : Bool → ℕ → ℕ → ℕ → (ℕ → Job) → Job
move_run read a at n next = move_words read a at n >> next (4 * n)

abbrev pub move_bytes : Bool → ℕ → ℕ → ℕ → (ℕ → Job) → Job
move_bytes read a at count next = move_part read a at count >> next count

moves : (a left : ℕ) → (left ≡ 0 → ⊥) → 1 ≤ moved a left
moves a left some = go (ℕ_discrete (a % 4) 0) (dec_lt left 4)
  where
    go : Dec (a % 4 ≡ 0) → Dec (left < 4) → 1 ≤ moved a left
    go (yes z) (no f) = simp (eq-eqb _ _ z) (simp (le-leb 4 left (omega arith)) (omega arith))
    go (yes z) (yes f) = simp (eq-eqb _ _ z) (simp (lt-leb 4 left f) (omega arith))
    go (no z) d = simp (ne_eqb _ _ z) (omega arith)

fewer : (n m fuel : ℕ) → n ≤ suc fuel → 1 ≤ m → n - m ≤ fuel
fewer n m fuel h k = omega arith

module _ (read : Bool) (stop len : ℕ) where
  -- as many turns as there are bytes are enough
  enough : (f g left : ℕ) → left ≤ f → left ≤ g → turns f read stop len left ≡ turns g read stop len left
  unfolding turns
  enough zero zero left h k = refl
  enough zero (suc g) left h k = simp (eq-eqb left 0 (omega arith)) refl
  enough (suc f) zero left h k = simp (eq-eqb left 0 (omega arith)) refl
  enough (suc f) (suc g) left h k = go (ℕ_discrete left 0) (λ less x y. enough f g less x y)
    where
      go : Dec (left ≡ 0) → ((less : ℕ) → less ≤ f → less ≤ g → turns f read stop len less ≡ turns g read stop len less)
          → turns (suc f) read stop len left ≡ turns (suc g) read stop len left
      go (yes e) ih = simp (eq-eqb _ _ e) refl
      go (no n) ih =
          let some = moves (stop - left) left n in
          simp (ne_eqb _ _ n) (ap (λ (j : Job). turn read (stop - left) (len - left) left >> j)
          (ih (left - moved (stop - left) left) (fewer left (moved (stop - left) left) f h some) (fewer left (moved (stop - left) left) g k some)))

  mem_turn : (left : ℕ) → (left ≡ 0 → ⊥)
      → mem_from read stop len left ≡ (turn read (stop - left) (len - left) left >> mem_from read stop len (left - moved (stop - left) left))
  unfolding turns
  mem_turn zero some = absurd (some refl)
  mem_turn (suc l) some =
      simp (ne_eqb (suc l) 0 some) (ap (λ (j : Job). turn read (stop - suc l) (len - suc l) (suc l) >> j)
      (enough l left left (fewer (suc l) (moved (stop - suc l) (suc l)) l (omega arith) (moves (stop - suc l) (suc l) some)) (omega arith)))
    where
      left : ℕ
      left = suc l - moved (stop - suc l) (suc l)

  module _ (left : ℕ) (some : left ≡ 0 → ⊥) (a : ℕ) (here : a ≡ stop - left) where
    abbrev next : ℕ → Job
    next moved = mem_from read stop len (left - moved)

    -- n whole words
    pub turn_run : (n : ℕ) → a % 4 ≡ 0 → 4 ≤ left → n ≡ run_words a (left / 4)
        → mem_from read stop len left ≡ move_run read (stop - left) (len - left) n next
    turn_run n z f h = mem_turn left some ∙ rw (← here) (simp (eq-eqb _ _ z) (simp (le-leb _ _ f) (rw h refl)))

    -- a part of a word: the address stands inside it
    pub turn_ragged : (count : ℕ) → (a % 4 ≡ 0 → ⊥) → count ≡ part_bytes a left
        → mem_from read stop len left ≡ move_bytes read (stop - left) (len - left) count next
    turn_ragged count z h = mem_turn left some ∙ rw (← here) (simp (ne_eqb _ _ z) (rw h refl))

    -- a part of a word: less than a word is left
    pub turn_short : (count : ℕ) → a % 4 ≡ 0 → left < 4 → count ≡ part_bytes a left
        → mem_from read stop len left ≡ move_bytes read (stop - left) (len - left) count next
    turn_short count z f h = mem_turn left some ∙ rw (← here) (simp (eq-eqb _ _ z) (simp (lt-leb _ _ f) (rw h refl)))
