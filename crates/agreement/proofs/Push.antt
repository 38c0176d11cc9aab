-- Words of a run that are written, over the line. Plan j is what the memory is after j of them. Serves the proofs only.
use Prim.Native.Nat.{ℕ, zero, suc, ◌+◌, ◌-◌, ◌*◌, ◌%◌, ◌≤◌, ◌<◌}
use Rattle.std.specs.Prelude.{true, false, ◌≡◌, refl, List, length, get_or}
use Rattle.std.proofs.Common.{sym, ◌∙◌, subst}
use native.Mathlib.Omega.{arith}
use Rattle.wire.specs.Bytes.{put_word}
use Rattle.wire.specs.Wire.{Memory}
use Rattle.wire_memap.specs.Action.{transferring, ◌>>◌}
use Rattle.wire_memap.specs.Ports.{DRW, select_of, ap_write}
use Rattle.wire_memap.specs.Words.{row_at, flush, push, push_all}
use Rattle.target.specs.Deliver.{transfer as delivered}
use Rattle.target.specs.declared.Target.{Target}
use Rattle.agreement.specs.Laws.Safe.{Stand, Post}
use Rattle.agreement.specs.Laws.Transfer.{Spot, Stops, Triple, Told, Sends, Implies, transfers, returns, binds, looks}
use Rattle.agreement.specs.Laws.Ports.{Keeps, quietly}
use Rattle.agreement.specs.Laws.Drw.{InKiB, TarAt, tar_then, drw_write, rdbuff_read, stuck_write, stuck_rdbuff}
use Rattle.agreement.specs.Laws.Running.{Stays, Running, on_next, on_failed, run_keeps, run_lost, stands, select_stands_lem}

-- a run of n words from a on
pub record Plans (base a n : ℕ) (word : ℕ → ℕ) (N : List ℕ → Type 0) (Plan : ℕ → List ℕ → Type 0) : Type 0 where
  pub whole : a % 4 ≡ 0
  pub fits : InKiB a n
  pub holds : (j : ℕ) (mem : List ℕ) → Plan j mem → N mem
  pub step : (j : ℕ) (mem : List ℕ) → j < n → base ≤ a + 4 * j → a + 4 * j + 4 ≤ base + length mem → Plan j mem
      → Plan (suc j) (put_word mem (a + 4 * j - base) (word j))

-- j words are written and `more` are due, or one was outside memory, so that nothing is answered Ok any more
pub data Pushed (base a : ℕ) (row buf : List ℕ) (N : List ℕ → Type 0) (Plan : ℕ → List ℕ → Type 0) (more j : ℕ)
    (m : Memory) (t : Target) (mem : List ℕ) : Type 0 where
  going : Running base buf m t → m.words ≡ row → TarAt a more j t → Plan j mem
      → Pushed base a row buf N Plan more j m t mem
  stuck : Running base buf m t → m.words ≡ row → t.sticky ≡ true → N mem → Pushed base a row buf N Plan more j m t mem

-- all of them are, and are done
pub record Wrote (base : ℕ) (row buf : List ℕ) (End : List ℕ → Type 0) (m : Memory) (t : Target) (mem : List ℕ) : Type 0 where
  pub running : Running base buf m t
  pub words : m.words ≡ row
  pub end : End mem

module _ (base a n : ℕ) (word : ℕ → ℕ) (row buf : List ℕ) (N : List ℕ → Type 0) (Plan : ℕ → List ℕ → Type 0)
    (plans : Plans base a n word N Plan) where
  abbrev F : Stand
  F = Keeps (Stays base N)

  abbrev At : ℕ → ℕ → Spot
  At more j = Pushed base a row buf N Plan more j

  abbrev Done : ℕ → Spot
  Done v = Wrote base row buf (Plan n)

  pushed_select : {more j : ℕ} → Implies (At more j) (λ m t mem. select_of m.remembered DRW ≡ m.remembered.select)
  pushed_select m t mem (going r w x p) = stands r
  pushed_select m t mem (stuck r w s p) = stands r

  pushed_row : {more j : ℕ} → Implies (At more j) (λ m t mem. m.words ≡ row)
  pushed_row m t mem (going r w x p) = w
  pushed_row m t mem (stuck r w s p) = w

  pushed_keeps : {more j : ℕ} → Implies (At more j) (λ m t mem. F m t mem false)
  pushed_keeps m t mem (going r w x p) = run_keeps r N (plans.holds _ _ p)
  pushed_keeps m t mem (stuck r w s p) = run_keeps r N p

  -- one word
  sends : (more j : ℕ) → j + suc more ≡ n → Implies (At (suc more) j) (Sends F false (λ _. At more (suc j)) 0xD (word j))
  sends more j e m t mem (going r w x p) = record {
    now = run_keeps r N so;
    sent = drw_write r.poised tar aligned mem (word j) (λ d. F m d.target d.mem true)
        (λ _. run_lost r N r.poised.start so)
        (λ l h. run_lost r N r.poised.start (plans.holds _ _ (next l h)))
        (run_lost r N r.poised.start so);
    told = drw_write r.poised tar aligned mem (word j) (Told F false (λ _. At more (suc j)) m)
        (λ _. run_keeps r N so)
        (λ l h. going (on_next r m.words) w (tar_then r.poised a n more j plans.fits e tar) (next l h))
        (stuck (on_failed r m.words) w refl so);
  }
    where
      so : N mem
      so = plans.holds _ _ p

      tar : t.tar ≡ a + 4 * j
      tar = x (omega arith)

      aligned : (a + 4 * j) % 4 ≡ 0
      aligned = omega (arith, plans.whole)

      next : base ≤ a + 4 * j → a + 4 * j + 4 ≤ base + length mem → Plan (suc j) (put_word mem (a + 4 * j - base) (word j))
      next l h = plans.step j mem (omega arith) l h p
  sends more j e m t mem (stuck r w s p) = record {
    now = run_keeps r N p;
    sent = stuck_write t mem (λ d. F m d.target d.mem true) s (run_lost r N r.poised.start p) (word j);
    told = stuck_write t mem (Told F false (λ _. At more (suc j)) m) s (run_keeps r N p) (word j);
  }

  -- RDBUFF, whose Ok says that no word was outside
  flushed : Implies (At 0 n) (λ m t mem. Told F false Done m (delivered t mem 0xE 0))
  flushed m t mem (going r w x p) =
      rdbuff_read t mem (Told F false Done m) (λ _. run_keeps r N (plans.holds _ _ p)) (record { running = r; words = w; end = p })
  flushed m t mem (stuck r w s p) = stuck_rdbuff t mem (Told F false Done m) s (run_keeps r N p)

  module _ {Q : Post} {S : Stand} (stops : Stops S F) where
    push_flush : Triple Q S F false (At 0 n) flush Done
    push_flush = binds (quietly stops pushed_keeps 0xE 0 tt flushed) (λ _. returns (λ _ _ _ p. p))

    -- one word alone
    pub push_one : n ≡ 1 → Triple Q S F false (At 1 0) (ap_write DRW (word 0) >> flush) Done
    push_one e =
        binds (binds (binds (select_stands_lem DRW pushed_select) (λ _. transfers stops (sends 0 0 (sym e)))) (λ _. returns {v = 0} (λ _ _ _ p. p)))
        (λ _. subst (λ (k : ℕ). Triple Q S F false (At 0 k) flush Done) e push_flush)

    module _ (named : (j : ℕ) → word j ≡ get_or row j 0) where
      -- the word at place i of the row, which is word j
      push_word : (more j i : ℕ) → j + suc more ≡ n → i ≡ j → (m : Memory)
          → Triple Q S F false (λ l t mem. (l ≡ m) × At (suc more) j l t mem) (transferring 0xD (row_at i m)) (λ _. At more (suc j))
      push_word more j i e f m =
          transfers stops (λ l t mem p.
          subst (λ (v : ℕ). Sends F false (λ _. At more (suc j)) 0xD v l t mem) (this l t mem p) (sends more j e l t mem p.1))
        where
          this : (l : Memory) (t : Target) (mem : List ℕ) → (l ≡ m) × At (suc more) j l t mem → word j ≡ row_at i m
          this l t mem p = named j ∙ rw (f, ← p.0, pushed_row l t mem p.1) refl

      push_rest : (last more j : ℕ) → j + more ≡ n → last + 1 ≡ n → Triple Q S F false (At more j) (push last more) Done
      unfolding push
      push_rest last zero j e l = let f : j ≡ n = omega arith in rw f push_flush
      push_rest last (suc more) j e l =
          looks (λ m. binds (push_word more j (last - more) e (omega arith) m) (λ _. push_rest last more (suc j) (omega arith) l))

      -- the first word, SELECT being 0 already, and the others
      pub push_all_lem : (last : ℕ) → last + 1 ≡ n → Triple Q S F false (At (suc (n - 1)) 0) (push_all last n) Done
      push_all_lem last l =
          looks (λ m. binds (binds (select_stands_lem DRW (λ l t mem p. pushed_select l t mem p.1))
          (λ _. push_word (n - 1) 0 (last - (n - 1)) (omega arith) (omega arith) m)) (λ _. push_rest last (n - 1) 1 (omega arith) l))
