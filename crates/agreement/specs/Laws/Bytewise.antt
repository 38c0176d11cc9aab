-- What the progress of a write says of the bytes that Demand3 speaks of. Serves the proofs only.
use Rattle.std.specs.Prelude.{ℕ, ◌+◌, ◌-◌, ◌≤◌, ◌<◌, Bool, true, false, ◌&&◌, cond, ◌≡◌, refl, List, leb, ltb, length, get_or, Option, Some, None}
use Rattle.std.proofs.Common.{ap, ◌∙◌, arith, le-leb, lt-ltb, le-ltb, leb-true}
use Rattle.std.proofs.Math.Decide.{dec_lt}
use Rattle.std.proofs.lemmas.Bool.{lt-leb}
use Rattle.agreement.specs.History.{Made}
use Rattle.agreement.specs.Demand3.{byte, among, renewed, OldOrNew, old, renew}
use Rattle.agreement.specs.Laws.Progress.{Progress}

-- the byte at an address of a memory that starts at `base`
abbrev pub byte_in : ℕ → List ℕ → ℕ → Option ℕ
byte_in base m a = cond (leb base a && ltb a (base + length m)) (Some (get_or m (a - base) 0)) None

pub byte_in_lem : (base : ℕ) (m : List ℕ) (a : ℕ) → base ≤ a → a < base + length m → byte_in base m a ≡ Some (get_or m (a - base) 0)
byte_in_lem base m a l h = rw (le-leb _ _ l, lt-ltb _ _ h)

-- one byte of two memories of one size
same_byte : (base : ℕ) (m n : List ℕ) (a : ℕ) → length m ≡ length n → (base ≤ a → get_or m (a - base) 0 ≡ get_or n (a - base) 0)
    → byte_in base m a ≡ byte_in base n a
same_byte base m n a e f = rw e (go (leb base a) refl (ltb a (base + length n)))
  where
    go : (x : Bool) → leb base a ≡ x → (y : Bool)
        → cond (x && y) (Some (get_or m (a - base) 0)) None ≡ cond (x && y) (Some (get_or n (a - base) 0)) None
    go true p true = ap Some (f (leb-true _ _ p))
    go true p false = refl
    go false p y = refl

among_true : (addr n a : ℕ) → addr ≤ a → a < addr + n → among addr n a ≡ true
among_true addr n a l h = rw (le-leb _ _ l, lt-ltb _ _ h)

among_below : (addr n a : ℕ) → a < addr → among addr n a ≡ false
among_below addr n a h = rw (lt-leb _ _ h)

among_above : (addr n a : ℕ) → addr + n ≤ a → among addr n a ≡ false
among_above addr n a h = let l : addr ≤ a = omega arith in rw (le-leb _ _ l, le-ltb _ _ h)

module _ (base : ℕ) (m₀ : List ℕ) (addr : ℕ) (new : List ℕ) (k : ℕ) (m₁ : List ℕ) (g : Progress base m₀ addr new k m₁) (a : ℕ) where
  byte_below : a < addr → byte_in base m₁ a ≡ byte_in base m₀ a
  byte_below h = same_byte base m₁ m₀ a g.size (λ l. g.below (a - base) (omega arith))

  byte_above : addr + k ≤ a → byte_in base m₁ a ≡ byte_in base m₀ a
  byte_above h = same_byte base m₁ m₀ a g.size (λ l. g.above (a - base) (omega arith))

  module _ (l : addr ≤ a) (h : a < addr + k) where
    based : (base ≤ addr) × (addr + k ≤ base + length m₀)
    based = g.inside (omega arith)

    byte_there : byte_in base m₀ a ≡ None → ⊥
    byte_there e =
        let v = based in
        let x : byte_in base m₀ a ≡ Some (get_or m₀ (a - base) 0) = byte_in_lem base m₀ a (omega arith) (omega arith) in
        let z : ◌≡◌ {A = ℕ} 0 1 = cc in omega arith

    byte_new : byte_in base m₁ a ≡ Some (get_or new (a - addr) 0)
    byte_new =
        let v = based in
        let s = g.size in
        let e : base + (a - base) - addr ≡ a - addr = omega arith in
        byte_in_lem base m₁ a (omega arith) (omega arith) ∙ ap Some (g.fresh (a - base) (omega arith) (omega arith) ∙ ap (λ (i : ℕ). get_or new i 0) e)

-- a call that left its memory so
module _ (m : Made) (addr : ℕ) (new : List ℕ) (b : m.after.target.base ≡ m.before.target.base) where
  abbrev base₀ : ℕ
  base₀ = m.before.target.base

  module _ (k : ℕ) (g : Progress base₀ m.before.mem addr new k m.after.mem) where
    pub progress_partly : (a : ℕ) → OldOrNew m addr new a
    progress_partly a = go (dec_lt a addr) (dec_lt a (addr + k))
      where
        go : Dec (a < addr) → Dec (a < addr + k) → OldOrNew m addr new a
        go (yes h) d = old (rw b (byte_below base₀ _ addr new k _ g a h))
        go (no h) (no d) = old (rw b (byte_above base₀ _ addr new k _ g a (omega arith)))
        go (no h) (yes d) =
            let s = g.short in
            let l : addr ≤ a = omega arith in
            renew (record {
              range = among_true addr (length new) a l (omega arith);
              existed = byte_there base₀ _ addr new k _ g a l d;
              now = rw b (byte_new base₀ _ addr new k _ g a l d);
            })

  pub progress_whole : Progress base₀ m.before.mem addr new (length new) m.after.mem
      → (a : ℕ) → byte m.after a ≡ renewed addr new a (byte m.before a)
  progress_whole g a = go (dec_lt a addr) (dec_lt a (addr + length new))
    where
      go : Dec (a < addr) → Dec (a < addr + length new) → byte m.after a ≡ renewed addr new a (byte m.before a)
      go (yes h) d = rw (b, among_below addr (length new) a h) (byte_below base₀ _ addr new (length new) _ g a h)
      go (no h) (no d) =
          let l : addr + length new ≤ a = omega arith in
          rw (b, among_above addr (length new) a l) (byte_above base₀ _ addr new (length new) _ g a l)
      go (no h) (yes d) =
          let l : addr ≤ a = omega arith in
          rw (b, among_true addr (length new) a l d) (byte_new base₀ _ addr new (length new) _ g a l d)
