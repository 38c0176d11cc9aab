-- The turns of a memory read or write, whatever is claimed of them: a run of words inside 1 KiB, or a part of one word. Serves the proofs only.
use Prim.Native.Nat.{ℕ, zero, suc, ◌+◌, ◌-◌, ◌*◌, ◌/◌, ◌%◌, ◌≤◌, ◌<◌}
use Rattle.std.specs.Prelude.{Bool, ◌≡◌, refl}
use Rattle.std.proofs.Common.{sym, subst, arith}
use Rattle.std.proofs.Math.Nat.{sub-zero}
use Rattle.std.proofs.Math.Decide.{dec_lt, ℕ_discrete}
use Rattle.call.specs.Job.{Job, return}
use Rattle.call_memory.specs.Memory.{turns, mem_from, run_words, part_bytes}
use Rattle.call_memory.specs.Laws.Turns.{move_run, move_bytes, turn_run, turn_ragged, turn_short}
use Rattle.agreement.specs.Laws.Drw.{InKiB}

-- Leads j k: from where k bytes are moved, the job j does as is claimed
pub record EachTurn (read : Bool) (addr len : ℕ) (Leads : Job → ℕ → Type 0) : Type 0 where
  pub none : Leads (return 0) len
  pub words : (a at n : ℕ) (next : ℕ → Job) → a ≡ addr + at → a % 4 ≡ 0 → InKiB a n → 0 < n → n ≤ 64 → at + 4 * n ≤ len
      → Leads (next (4 * n)) (at + 4 * n) → Leads (move_run read a at n next) at
  pub bytes : (a at count : ℕ) (next : ℕ → Job) → a ≡ addr + at → 0 < count → a % 4 + count ≤ 4 → at + count ≤ len
      → Leads (next count) (at + count) → Leads (move_bytes read a at count next) at

module _ {read : Bool} {addr len : ℕ} {Leads : Job → ℕ → Type 0} (each : EachTurn read addr len Leads) where
  abbrev From : ℕ → Type 0
  From left = Leads (mem_from read (addr + len) len left) (len - left)

  -- one turn with `left` bytes to go
  module _ (left : ℕ) (some : left ≡ 0 → ⊥) (l : left ≤ len) (ih : (less : ℕ) → less < left → From less) where
    abbrev a : ℕ
    a = addr + len - left

    abbrev at : ℕ
    at = len - left

    abbrev next : ℕ → Job
    next moved = mem_from read (addr + len) len (left - moved)

    -- what follows, after `moved` bytes
    follows : (moved : ℕ) → 0 < moved → moved ≤ left → Leads (next moved) (at + moved)
    follows moved p h =
        let e : len - (left - moved) ≡ len - left + moved = omega arith in
        subst (Leads (next moved)) e (ih (left - moved) (omega arith))

    run : a % 4 ≡ 0 → 4 ≤ left → From left
    run z f =
        subst (λ (j : Job). Leads j at) (sym (turn_run read (addr + len) len left some a refl n z f refl))
        (each.words a at n next (omega arith) z (omega arith) (omega arith) (omega arith) (omega arith)
        (follows (4 * n) (omega arith) (omega arith)))
      where
        n : ℕ
        n = run_words a (left / 4)

    -- a part of a word
    abbrev count : ℕ
    count = part_bytes a left

    part : Leads (move_bytes read a at count next) at
    part = each.bytes a at count next (omega arith) (omega arith) (omega arith) (omega arith) (follows count (omega arith) (omega arith))

    one_turn : From left
    one_turn = go (ℕ_discrete (a % 4) 0) (dec_lt left 4)
      where
        go : Dec (a % 4 ≡ 0) → Dec (left < 4) → From left
        go (yes z) (no f) = run z (omega arith)
        go (yes z) (yes f) = subst (λ (j : Job). Leads j at) (sym (turn_short read (addr + len) len left some a refl count z f refl)) part
        go (no z) d = subst (λ (j : Job). Leads j at) (sym (turn_ragged read (addr + len) len left some a refl count z refl)) part

  from : (fuel left : ℕ) → left < fuel → left ≤ len → From left
  unfolding turns
  from zero left h l = absurd (omega arith)
  from (suc fuel) left h l = go (ℕ_discrete left 0) (λ less x. from fuel less (omega arith) (omega arith))
    where
      go : Dec (left ≡ 0) → ((less : ℕ) → less < left → From less) → From left
      go (yes e) ih = rw (e, sub-zero) each.none
      go (no n) ih = one_turn left n l ih

  pub all_turns : Leads (mem_from read (addr + len) len len) 0
  all_turns =
      let e : len - len ≡ 0 = omega arith in
      subst (Leads (mem_from read (addr + len) len len)) e (from (suc len) len (omega arith) (omega arith))
