-- Rows of words against bytes: what `store_words`, `store_part`, `load_words` and `patch_bytes` leave at each place. Serves the proofs only.
use Rattle.std.specs.Prelude.{ℕ, zero, suc, ◌+◌, ◌*◌, ◌≤◌, ◌<◌, ◌≡◌, refl, List, ◌++◌, length, get_or, set, take, drop}
use Rattle.std.proofs.Common.{sym, ap, ◌∙◌, zero-add, arith, length-set, length-append, length-drop, get_or-set_other, get_or-set_same, get_or-append-add, get_or-take, get_or-drop, length-take-le}
use Rattle.std.proofs.Math.Decide.{dec_lt}
use Rattle.std.proofs.Math.ListN.{get_or-append, get_or-eq_default}
use Rattle.std.proofs.Math.Seq.{length-sets}
use Rattle.wire.specs.Bytes.{le_bytes, put_word, le_word}
use Rattle.call_bytes.specs.Bytes.{store_words, store_part, load_words, patch_bytes, patch_word}
use Rattle.agreement.specs.Demand3.{Bytes}
use Rattle.agreement.specs.Laws.WordBytes.{word_bytes, put_before, put_within}

pub stored_size : (n : ℕ) (ws b : List ℕ) → length (store_words n ws b) ≡ length b
unfolding store_words
stored_size zero ws b = refl
stored_size (suc n) ws b = length-sets (store_words n ws b) (4 * n) (le_bytes (get_or ws n 0)) ∙ stored_size n ws b

pub stored_at_lem : (n : ℕ) (ws b : List ℕ) → 4 * n ≤ length b → (q r : ℕ) → q < n → r < 4
    → get_or (store_words n ws b) (4 * q + r) 0 ≡ get_or (le_bytes (get_or ws q 0)) r 0
unfolding store_words
stored_at_lem zero ws b l q r h s = absurd (omega arith)
stored_at_lem (suc n) ws b l q r h s = go (dec_lt q n) (λ l x. stored_at_lem n ws b l q r x s)
  where
    go : Dec (q < n) → (4 * n ≤ length b → q < n → get_or (store_words n ws b) (4 * q + r) 0 ≡ get_or (le_bytes (get_or ws q 0)) r 0)
        → get_or (put_word (store_words n ws b) (4 * n) (get_or ws n 0)) (4 * q + r) 0 ≡ get_or (le_bytes (get_or ws q 0)) r 0
    go (yes x) ih = put_before (store_words n ws b) (4 * n) (get_or ws n 0) (4 * q + r) (omega arith) ∙ ih (omega arith) x
    go (no x) ih =
        let e : q ≡ n = omega arith in
        ap (λ (z : ℕ). get_or (put_word (store_words n ws b) (4 * n) (get_or ws n 0)) (4 * z + r) 0) e
        ∙ put_within (store_words n ws b) (4 * n) (get_or ws n 0) (omega (arith, stored_size n ws b)) r s
        ∙ ap (λ (z : ℕ). get_or (le_bytes (get_or ws z 0)) r 0) (sym e)

pub part_size : (n w skip : ℕ) (b : List ℕ) → length (store_part n w skip b) ≡ length b
unfolding store_part
part_size zero w skip b = refl
part_size (suc n) w skip b = length-set (store_part n w skip b) n _ ∙ part_size n w skip b

pub part_at : (n w skip : ℕ) (b : List ℕ) → n ≤ length b → (i : ℕ) → i < n → get_or (store_part n w skip b) i 0 ≡ get_or (le_bytes w) (skip + i) 0
unfolding store_part
part_at zero w skip b l i h = absurd (omega arith)
part_at (suc n) w skip b l i h = go (dec_lt i n) (λ l x. part_at n w skip b l i x)
  where
    go : Dec (i < n) → (n ≤ length b → i < n → get_or (store_part n w skip b) i 0 ≡ get_or (le_bytes w) (skip + i) 0)
        → get_or (set (store_part n w skip b) n (get_or (le_bytes w) (skip + n) 0)) i 0 ≡ get_or (le_bytes w) (skip + i) 0
    go (yes x) ih = get_or-set_other (store_part n w skip b) n i _ 0 (omega arith) ∙ ih (omega arith) x
    go (no x) ih =
        let e : i ≡ n = omega arith in
        rw e (get_or-set_same (store_part n w skip b) n _ 0 (omega (arith, part_size n w skip b)))

pub loaded_size : (n : ℕ) (b ws : List ℕ) → length (load_words n b ws) ≡ length ws
unfolding load_words
loaded_size zero b ws = refl
loaded_size (suc n) b ws = length-set (load_words n b ws) n _ ∙ loaded_size n b ws

pub loaded_at : (n : ℕ) (b ws : List ℕ) → n ≤ length ws → (q : ℕ) → q < n → get_or (load_words n b ws) q 0 ≡ le_word b (4 * q)
unfolding load_words
loaded_at zero b ws l q h = absurd (omega arith)
loaded_at (suc n) b ws l q h = go (dec_lt q n) (λ l x. loaded_at n b ws l q x)
  where
    go : Dec (q < n) → (n ≤ length ws → q < n → get_or (load_words n b ws) q 0 ≡ le_word b (4 * q))
        → get_or (set (load_words n b ws) n (le_word b (4 * n))) q 0 ≡ le_word b (4 * q)
    go (yes x) ih = get_or-set_other (load_words n b ws) n q _ 0 (omega arith) ∙ ih (omega arith) x
    go (no x) ih =
        let e : q ≡ n = omega arith in
        rw e (get_or-set_same (load_words n b ws) n _ 0 (omega (arith, loaded_size n b ws)))

patched_size : (n w skip : ℕ) (b : List ℕ) → length (patch_bytes n w skip b) ≡ 4
unfolding patch_bytes
patched_size zero w skip b = refl
patched_size (suc n) w skip b = length-set (patch_bytes n w skip b) (skip + n) _ ∙ patched_size n w skip b

patched_in : (n w skip : ℕ) (b : List ℕ) → skip + n ≤ 4 → (i : ℕ) → i < n → get_or (patch_bytes n w skip b) (skip + i) 0 ≡ get_or b i 0
unfolding patch_bytes
patched_in zero w skip b l i h = absurd (omega arith)
patched_in (suc n) w skip b l i h = go (dec_lt i n) (λ l x. patched_in n w skip b l i x)
  where
    go : Dec (i < n) → (skip + n ≤ 4 → i < n → get_or (patch_bytes n w skip b) (skip + i) 0 ≡ get_or b i 0)
        → get_or (set (patch_bytes n w skip b) (skip + n) (get_or b n 0)) (skip + i) 0 ≡ get_or b i 0
    go (yes x) ih = get_or-set_other (patch_bytes n w skip b) (skip + n) (skip + i) _ 0 (omega arith) ∙ ih (omega arith) x
    go (no x) ih =
        let e : i ≡ n = omega arith in
        rw e (get_or-set_same (patch_bytes n w skip b) (skip + n) _ 0 (omega (arith, patched_size n w skip b)))

patched_low : (n w skip : ℕ) (b : List ℕ) (i : ℕ) → i < skip → get_or (patch_bytes n w skip b) i 0 ≡ get_or (le_bytes w) i 0
unfolding patch_bytes
patched_low zero w skip b i h = refl
patched_low (suc n) w skip b i h = get_or-set_other (patch_bytes n w skip b) (skip + n) i _ 0 (omega arith) ∙ patched_low n w skip b i h

patched_high : (n w skip : ℕ) (b : List ℕ) (i : ℕ) → skip + n ≤ i → get_or (patch_bytes n w skip b) i 0 ≡ get_or (le_bytes w) i 0
unfolding patch_bytes
patched_high zero w skip b i h = refl
patched_high (suc n) w skip b i h =
    get_or-set_other (patch_bytes n w skip b) (skip + n) i _ 0 (omega arith) ∙ patched_high n w skip b i (omega arith)

-- a list with one place set to a byte
set_byte : (l : List ℕ) (i v : ℕ) → v < 256 → Bytes l → Bytes (set l i v)
set_byte l i v h b j = go (dec_lt j i) (dec_lt i j) (dec_lt i (length l))
  where
    go : Dec (j < i) → Dec (i < j) → Dec (i < length l) → get_or (set l i v) j 0 < 256
    go (yes x) d f = rw (get_or-set_other l i j v 0 (omega arith)) (b j)
    go (no x) (yes d) f = rw (get_or-set_other l i j v 0 (omega arith)) (b j)
    go (no x) (no d) (yes f) = let e : j ≡ i = omega arith in rw (e, get_or-set_same l i v 0 f) h
    go (no x) (no d) (no f) =
        let k : length (set l i v) ≤ j = omega (arith, length-set l i v) in
        rw (get_or-eq_default (set l i v) 0 k) (omega arith)

word_all_bytes : (w : ℕ) → Bytes (le_bytes w)
word_all_bytes w zero = omega arith
word_all_bytes w (suc zero) = omega arith
word_all_bytes w (suc (suc zero)) = omega arith
word_all_bytes w (suc (suc (suc zero))) = omega arith
word_all_bytes w (suc (suc (suc (suc i)))) = omega arith

patched_bytes : (n w skip : ℕ) (b : List ℕ) → Bytes b → Bytes (patch_bytes n w skip b)
unfolding patch_bytes
patched_bytes zero w skip b h = word_all_bytes w
patched_bytes (suc n) w skip b h = set_byte (patch_bytes n w skip b) (skip + n) (get_or b n 0) (h n) (patched_bytes n w skip b h)

-- the bytes of a patched word: n from `skip` on are those of b, the others its own
module _ (n w skip : ℕ) (b : List ℕ) (h : Bytes b) (l : skip + n ≤ 4) where
  patch_byte : (i : ℕ) → i < 4 → get_or (le_bytes (patch_word n w skip b)) i 0 ≡ get_or (patch_bytes n w skip b) i 0
  patch_byte i x =
      word_bytes (patch_bytes n w skip b) 0 i (patched_bytes n w skip b h) x ∙ ap (λ (j : ℕ). get_or (patch_bytes n w skip b) j 0) (zero-add i)

  pub patch_in : (i : ℕ) → i < n → get_or (le_bytes (patch_word n w skip b)) (skip + i) 0 ≡ get_or b i 0
  patch_in i x = patch_byte (skip + i) (omega arith) ∙ patched_in n w skip b l i x

  pub patch_low : (i : ℕ) → i < skip → get_or (le_bytes (patch_word n w skip b)) i 0 ≡ get_or (le_bytes w) i 0
  patch_low i x = patch_byte i (omega arith) ∙ patched_low n w skip b i x

  pub patch_high : (i : ℕ) → i < 4 → skip + n ≤ i → get_or (le_bytes (patch_word n w skip b)) i 0 ≡ get_or (le_bytes w) i 0
  patch_high i x y = patch_byte i x ∙ patched_high n w skip b i y

pub bytes_drop : (at : ℕ) (b : List ℕ) → Bytes b → Bytes (drop at b)
bytes_drop at b h i = rw (get_or-drop at b i 0) (h (at + i))

-- a buffer whose part from `at` on became l
module _ (at : ℕ) (b l : List ℕ) (h : at ≤ length b) where
  pub from_size : length l ≡ length (drop at b) → length (take at b ++ l) ≡ length b
  from_size e = length-append (take at b) l ∙ omega (arith, length-take-le at b h, length-drop at b)

  pub from_before : (i : ℕ) → i < at → get_or (take at b ++ l) i 0 ≡ get_or b i 0
  from_before i x = get_or-append (take at b) l 0 i (omega (arith, length-take-le at b h)) ∙ get_or-take at b i 0 x

  pub from_at : (i : ℕ) → get_or (take at b ++ l) (at + i) 0 ≡ get_or l i 0
  from_at i = rw (length-take-le at b h) at (get_or-append-add (take at b) l i 0)

-- a word in the rest of a list
pub word_drop : (at : ℕ) (b : List ℕ) (i : ℕ) → le_word (drop at b) i ≡ le_word b (at + i)
word_drop at b i = rw (get_or-drop at b i 0, byte 1, byte 2, byte 3) refl
  where
    byte : (r : ℕ) → get_or (drop at b) (i + r) 0 ≡ get_or b (at + i + r) 0
    byte r = let e : at + (i + r) ≡ at + i + r = omega arith in get_or-drop at b (i + r) 0 ∙ ap (λ (j : ℕ). get_or b j 0) e
