-- How far a write has come: so many of the new bytes stand in memory, the others are the old ones. A word that is put, whole or patched,
-- takes it further. Serves the proofs only.
use Rattle.std.specs.Prelude.{ℕ, zero, suc, ◌+◌, ◌-◌, ◌≤◌, ◌<◌, ◌≡◌, refl, List, length, get_or}
use Rattle.std.proofs.Common.{ap, ◌∙◌, arith}
use Rattle.std.proofs.Math.Decide.{dec_lt}
use Rattle.wire.specs.Bytes.{le_bytes, put_word}
use Rattle.agreement.specs.Demand3.{Bytes}
use Rattle.agreement.specs.Laws.WordBytes.{Lies, before, within, beyond, lies, put_size, put_before, put_within, put_beyond}

-- k of the bytes `new` from `addr` on stand in a memory that was `old`
pub record Progress (base : ℕ) (old : List ℕ) (addr : ℕ) (new : List ℕ) (k : ℕ) (mem : List ℕ) : Type 0 where
  pub size : length mem ≡ length old
  pub short : k ≤ length new
  pub inside : 0 < k → (base ≤ addr) × (addr + k ≤ base + length old)
  pub fresh : (j : ℕ) → addr ≤ base + j → base + j < addr + k → get_or mem j 0 ≡ get_or new (base + j - addr) 0
  pub below : (j : ℕ) → base + j < addr → get_or mem j 0 ≡ get_or old j 0
  pub above : (j : ℕ) → addr + k ≤ base + j → get_or mem j 0 ≡ get_or old j 0

-- the word w for place p: `count` of its bytes are the next new ones, the others those of the memory
pub record Next (base addr : ℕ) (new : List ℕ) (k count : ℕ) (mem : List ℕ) (p w : ℕ) : Type 0 where
  pub some : 0 < count
  pub low : base + p ≤ addr + k
  pub high : addr + k + count ≤ base + p + 4
  pub enough : k + count ≤ length new
  pub room : p + 4 ≤ length mem
  pub news : (i : ℕ) → i < 4 → addr + k ≤ base + p + i → base + p + i < addr + k + count → get_or (le_bytes w) i 0 ≡ get_or new (base + p + i - addr) 0
  pub under : (i : ℕ) → i < 4 → base + p + i < addr + k → get_or (le_bytes w) i 0 ≡ get_or mem (p + i) 0
  pub over : (i : ℕ) → i < 4 → addr + k + count ≤ base + p + i → get_or (le_bytes w) i 0 ≡ get_or mem (p + i) 0

module _ (base : ℕ) (old : List ℕ) (addr : ℕ) (new : List ℕ) where
  pub progress_none : Progress base old addr new 0 old
  progress_none = record {
    size = refl;
    short = omega arith;
    inside = λ h. absurd (omega arith);
    fresh = λ j l h. absurd (omega arith);
    below = λ j h. refl;
    above = λ j h. refl;
  }

  module _ (k count : ℕ) (mem : List ℕ) (p w : ℕ) (g : Progress base old addr new k mem) (n : Next base addr new k count mem p w) where
    -- the start of the range is in memory
    base_low : base ≤ addr
    base_low = go k g.inside n.low
      where
        go : (k : ℕ) → (0 < k → (base ≤ addr) × (addr + k ≤ base + length old)) → base + p ≤ addr + k → base ≤ addr
        go zero f l = omega arith
        go (suc k) f l = (f (omega arith)).0

    put_fresh : (j : ℕ) → addr ≤ base + j → base + j < addr + (k + count) → Lies j p → get_or (put_word mem p w) j 0 ≡ get_or new (base + j - addr) 0
    put_fresh j l h (before x) = put_before mem p w j x ∙ g.fresh j l (omega (arith, n.low))
    put_fresh j l h (within i x e) =
        rw e (put_within mem p w n.room i x ∙ go (dec_lt (base + p + i) (addr + k)))
      where
        same : base + p + i ≡ base + (p + i)
        same = omega arith

        go : Dec (base + p + i < addr + k) → get_or (le_bytes w) i 0 ≡ get_or new (base + (p + i) - addr) 0
        go (yes y) = n.under i x y ∙ g.fresh (p + i) (omega arith) (omega arith)
        go (no y) = n.news i x (omega arith) (omega arith) ∙ ap (λ (q : ℕ). get_or new (q - addr) 0) same
    put_fresh j l h (beyond x) = absurd (omega (arith, n.high))

    put_below : (j : ℕ) → base + j < addr → Lies j p → get_or (put_word mem p w) j 0 ≡ get_or old j 0
    put_below j h (before x) = put_before mem p w j x ∙ g.below j h
    put_below j h (within i x e) = rw e (put_within mem p w n.room i x ∙ n.under i x (omega arith) ∙ g.below (p + i) (omega arith))
    put_below j h (beyond x) = put_beyond mem p w j x ∙ g.below j h

    put_above : (j : ℕ) → addr + (k + count) ≤ base + j → Lies j p → get_or (put_word mem p w) j 0 ≡ get_or old j 0
    put_above j h (before x) = absurd (omega (arith, n.low, n.some))
    put_above j h (within i x e) = rw e (put_within mem p w n.room i x ∙ n.over i x (omega arith) ∙ g.above (p + i) (omega arith))
    put_above j h (beyond x) = put_beyond mem p w j x ∙ g.above j (omega arith)

    -- the word is put: `count` bytes further
    pub progress_put : Progress base old addr new (k + count) (put_word mem p w)
    progress_put = record {
      size = put_size mem p w ∙ g.size;
      short = n.enough;
      inside = λ _. (base_low, omega (arith, n.high, n.room, g.size));
      fresh = λ j l h. put_fresh j l h (lies j p);
      below = λ j h. put_below j h (lies j p);
      above = λ j h. put_above j h (lies j p);
    }

-- a memory of bytes stays one
pub progress_bytes : {base : ℕ} {old : List ℕ} {addr : ℕ} {new : List ℕ} {k : ℕ} {mem : List ℕ} → Bytes old → Bytes new
    → Progress base old addr new k mem → Bytes mem
progress_bytes {base} {addr} {k} {mem} bo bn g j = go (dec_lt (base + j) addr) (dec_lt (base + j) (addr + k))
  where
    go : Dec (base + j < addr) → Dec (base + j < addr + k) → get_or mem j 0 < 256
    go (yes x) y = rw (g.below j x) (bo j)
    go (no x) (yes y) = rw (g.fresh j (omega arith) y) (bn _)
    go (no x) (no y) = rw (g.above j (omega arith)) (bo j)
