-- Words of a run that are read, over the line. A posted read answers the word before it, and RDBUFF the last. Serves the proofs only.
use Prim.Native.Nat.{ℕ, zero, suc, ◌+◌, ◌-◌, ◌*◌, ◌%◌, ◌≤◌, ◌<◌}
use Rattle.std.specs.Prelude.{true, false, ◌≡◌, refl, List, length, get_or, set}
use Rattle.std.proofs.Common.{◌∙◌, subst, add-one, arith, length-set, get_or-set_other, get_or-set_same}
use Rattle.std.proofs.Math.Decide.{dec_lt}
use Rattle.wire.specs.Wire.{Memory}
use Rattle.wire_memap.specs.Ports.{DRW, RDBUFF, dp_read, ap_access}
use Rattle.wire_memap.specs.Words.{placed, pull}
use Rattle.target.specs.Deliver.{transfer as delivered}
use Rattle.target.specs.declared.Target.{Target}
use Rattle.agreement.specs.Laws.Safe.{Stand, Post}
use Rattle.agreement.specs.Laws.Transfer.{Spot, Stops, Triple, Told, Implies, places, binds}
use Rattle.agreement.specs.Laws.Ports.{Keeps, quietly}
use Rattle.agreement.specs.Laws.Got.{Held, Row}
use Rattle.agreement.specs.Laws.Drw.{InKiB, TarAt, tar_then, drw_read_lem, rdbuff_read, stuck_read, stuck_rdbuff}
use Rattle.agreement.specs.Laws.Running.{Stays, Running, on_same, on_next, on_failed, on_read, run_keeps, stands, select_stands_lem}

-- the memory as it was
abbrev pub Same : List ℕ → List ℕ → Type 0
Same old mem = mem ≡ old

-- before a run of reads from a on: TAR stands, and the row has `size` places
pub record Aimed (base a : ℕ) (old buf : List ℕ) (size : ℕ) (m : Memory) (t : Target) (mem : List ℕ) : Type 0 where
  pub running : Running base buf m t
  pub tar : t.tar ≡ a
  pub same : mem ≡ old
  pub sized : length m.words ≡ size

-- in it: j words are in the row, word j is in the read buffer, and `more` reads are due
pub record Going (base a : ℕ) (old buf : List ℕ) (size more j : ℕ) (m : Memory) (t : Target) (mem : List ℕ) : Type 0 where
  pub running : Running base buf m t
  pub tar : TarAt a more (suc j) t
  pub same : mem ≡ old
  pub sized : length m.words ≡ size
  pub row : Row base old a j m.words
  pub held : Held base old (a + 4 * j) t.rdbuff

-- or one read was outside memory, so that nothing is answered Ok any more
pub data Pulled (base a : ℕ) (old buf : List ℕ) (size more j : ℕ) (m : Memory) (t : Target) (mem : List ℕ) : Type 0 where
  going : Going base a old buf size more j m t mem → Pulled base a old buf size more j m t mem
  stuck : Running base buf m t → t.sticky ≡ true → mem ≡ old → Pulled base a old buf size more j m t mem

-- the run is read
pub record Filled (base a : ℕ) (old buf : List ℕ) (size n : ℕ) (m : Memory) (t : Target) (mem : List ℕ) : Type 0 where
  pub running : Running base buf m t
  pub same : mem ≡ old
  pub sized : length m.words ≡ size
  pub row : Row base old a n m.words

-- one word v is read
pub record OneRead (base a : ℕ) (old buf : List ℕ) (size v : ℕ) (m : Memory) (t : Target) (mem : List ℕ) : Type 0 where
  pub running : Running base buf m t
  pub same : mem ≡ old
  pub sized : length m.words ≡ size
  pub held : Held base old a v

-- one word more in the row
row_more : (base : ℕ) (old : List ℕ) (a j v : ℕ) (ws : List ℕ) → j < length ws → Row base old a j ws → Held base old (a + 4 * j) v
    → Row base old a (suc j) (set ws j v)
row_more base old a j v ws l r h q x = go (dec_lt q j)
  where
    go : Dec (q < j) → Held base old (a + 4 * q) (get_or (set ws j v) q 0)
    go (yes y) = rw (get_or-set_other ws j q v 0 (omega arith)) (r q y)
    go (no y) = let e : q ≡ j = omega arith in rw (e, get_or-set_same ws j v 0 l) h

module _ (base a n : ℕ) (old buf : List ℕ) (size : ℕ) (room : n ≤ size) (whole : a % 4 ≡ 0) (fits : InKiB a n) where
  abbrev F : Stand
  F = Keeps (Stays base (Same old))

  abbrev At : ℕ → ℕ → Spot
  At more j = Pulled base a old buf size more j

  keeps : {more j : ℕ} → Implies (At more j) (λ m t mem. F m t mem false)
  keeps m t mem (going x) = run_keeps x.running (Same old) x.same
  keeps m t mem (stuck r s e) = run_keeps r (Same old) e

  -- the first read of a run; what it answers is left alone
  first_told : 0 < n → Implies (Aimed base a old buf size) (λ m t mem. Told F false (λ _. At (n - 1) 0) m (delivered t mem 0xF 0))
  first_told p m t mem x =
      drw_read_lem x.running.poised tar (omega arith) mem (Told F false (λ _. At (n - 1) 0) m)
      (λ _. run_keeps x.running (Same old) x.same)
      (λ w h. going (record {
        running = on_read w (on_next x.running m.words);
        tar = tar_then x.running.poised a n (n - 1) 0 fits (omega arith) tar;
        same = x.same;
        sized = x.sized;
        row = λ q l. absurd (omega arith);
        held = subst (λ (o : List ℕ). Held base o (a + 4 * 0) w) x.same h;
      }))
      (stuck (on_read 0 (on_failed x.running m.words)) refl x.same)
    where
      tar : t.tar ≡ a + 4 * 0
      tar = x.tar ∙ omega arith

  -- word j is answered and goes to its place, i
  module _ (j i : ℕ) (f : i ≡ j) where
    abbrev Next : ℕ → ℕ → Spot
    Next more v m t mem = At more (suc j) (placed m i v) t mem

    abbrev Last : ℕ → Spot
    Last v m t mem = Filled base a old buf size n (placed m i v) t mem

    next_told : (more : ℕ) → j + suc (suc more) ≡ n → Implies (At (suc more) j) (λ m t mem. Told F false (Next more) m (delivered t mem 0xF 0))
    next_told more c m t mem (going x) =
        drw_read_lem x.running.poised (x.tar (omega arith)) (omega arith) mem (Told F false (Next more) m)
        (λ _. run_keeps x.running (Same old) x.same)
        (λ w h. going (record {
          running = on_read w (on_next x.running (set m.words i t.rdbuff));
          tar = tar_then x.running.poised a n more (suc j) fits (omega arith) (x.tar (omega arith));
          same = x.same;
          sized = length-set m.words i t.rdbuff ∙ x.sized;
          row = rw f (row_more base old a j t.rdbuff m.words (omega (arith, x.sized)) x.row x.held);
          held = subst (λ (o : List ℕ). Held base o (a + 4 * suc j) w) x.same h;
        }))
        (stuck (on_read 0 (on_failed x.running (set m.words i t.rdbuff))) refl x.same)
    next_told more c m t mem (stuck r s e) = stuck_read t mem (Told F false (Next more) m) s (run_keeps r (Same old) e)

    last_told : j + 1 ≡ n → Implies (At 0 j) (λ m t mem. Told F false Last m (delivered t mem 0xE 0))
    last_told c m t mem (going x) =
        rdbuff_read t mem (Told F false Last m) (λ _. run_keeps x.running (Same old) x.same)
        (record {
          running = on_same x.running (set m.words i t.rdbuff);
          same = x.same;
          sized = length-set m.words i t.rdbuff ∙ x.sized;
          row = rw (f, ← c, add-one) (row_more base old a j t.rdbuff m.words (omega (arith, x.sized)) x.row x.held);
        })
    last_told c m t mem (stuck r s e) = stuck_rdbuff t mem (Told F false Last m) s (run_keeps r (Same old) e)

  -- one word alone
  one_told : Implies (At 0 0) (λ m t mem. Told F false (λ v. OneRead base a old buf size v) m (delivered t mem 0xE 0))
  one_told m t mem (going x) =
      rdbuff_read t mem (Told F false (λ v. OneRead base a old buf size v) m) (λ _. run_keeps x.running (Same old) x.same)
      (let e : a + 4 * 0 ≡ a = omega arith in record { running = x.running; same = x.same; sized = x.sized; held = rw e at x.held })
  one_told m t mem (stuck r s e) = stuck_rdbuff t mem (Told F false (λ v. OneRead base a old buf size v) m) s (run_keeps r (Same old) e)

  module _ {Q : Post} {S : Stand} (stops : Stops S F) where
    -- the first read, SELECT being 0 already
    pub pull_first : 0 < n → Triple Q S F false (Aimed base a old buf size) (ap_access 0xF DRW 0) (λ _. At (n - 1) 0)
    pull_first p =
        binds (select_stands_lem DRW (λ _ _ _ x. stands x.running))
        (λ _. quietly stops (λ _ _ _ x. run_keeps x.running (Same old) x.same) 0xF 0 tt (first_told p))

    pub pull_rest : (last more j : ℕ) → j + suc more ≡ n → last + 1 ≡ n
        → Triple Q S F false (At more j) (pull last more) (λ _. Filled base a old buf size n)
    unfolding pull
    pull_rest last zero j c l = binds (quietly stops keeps 0xE 0 tt (last_told j last (omega arith) (omega arith))) (λ v. places (λ _ _ _ p. p))
    pull_rest last (suc more) j c l =
        binds (quietly stops keeps 0xF 0 tt (next_told j (last - suc more) (omega arith) more c))
        (λ v. binds (places (λ _ _ _ p. p)) (λ _. pull_rest last more (suc j) (omega arith) l))

    pub pull_one : Triple Q S F false (At 0 0) (dp_read RDBUFF) (λ v. OneRead base a old buf size v)
    pull_one = quietly stops keeps 0xE 0 tt one_told
