-- Laws of Bytes. Serves the proofs only: the loops that store turn by turn, and the end of a buffer lent and put back.
use Rattle.std.specs.Prelude.{ℕ, zero, suc, ◌+◌, ◌*◌, ◌-◌, ◌<◌, ◌≤◌, min, ◌≡◌, refl, List, [], ◌∷◌, ◌++◌, length, get_or, take, drop}
use Rattle.std.specs.Int.{w32, to_le_bytes}
use Rattle.std.proofs.Common.{sym, ap, ◌∙◌, append-nil, length-drop, drop_of_length-le, take_all, drop-drop, get_or-take, get_or-drop, add-suc, add-one, arith, rules}
use Rattle.std.proofs.lemmas.List.{append_assoc}
use Rattle.std.proofs.lemmas.List.Edits.{sets, sets-eq}
use Rattle.std.proofs.Math.Seq.{set_out, length-sets}
use Rattle.std.proofs.Math.Nat.{zero-min, min-zero, suc-min-suc}
use Rattle.wire.specs.Bytes.{le_bytes, le_word, put_word}
use Rattle.call_bytes.specs.Bytes.{store_words, store_part, load_words, patch_bytes, from_place}

-- the library's bytes of a word are the definition's
pub word_bytes : (w : ℕ) → to_le_bytes w32 w ≡ le_bytes w
word_bytes w = search rules

-- a word's bytes put in the place of four that were lent, from place i on
pub whole_put : (b l : List ℕ) (i w : ℕ) → i + 4 ≤ length b → l ≡ to_le_bytes w32 w
    → take i b ++ (l ++ drop (i + 4 - i) (drop i b)) ≡ put_word b i w
whole_put b l i w le h =
    let e : i + 4 - i ≡ 4 = omega arith in rw (h ∙ word_bytes w, e, drop-drop 4 i b, sets-eq (le_bytes w) b i le) (sym (append_assoc (take i b) (le_bytes w) (drop (i + 4) b)))

-- the word of four bytes that were lent, from place i on
pub whole_got : (b : List ℕ) (i : ℕ) → le_word (take (i + 4 - i) (drop i b)) 0 ≡ le_word b i
whole_got b i =
    let e : i + 4 - i ≡ 4 = omega arith in
    let at : (k : ℕ) → k < 4 → get_or (take 4 (drop i b)) k 0 ≡ get_or b (i + k) 0 = λ k h. get_or-take 4 (drop i b) k 0 h ∙ get_or-drop i b k 0 in
    let none : i + 0 ≡ i = omega arith in rw (e, at 0 (omega arith), none, at 1 (omega arith), at 2 (omega arith), at 3 (omega arith))

-- what is stored past the end is dropped
sets_out : (vs l : List ℕ) (i : ℕ) → length l ≤ i → sets l i vs ≡ l
sets_out [] l i h = refl
sets_out (v ∷ vs) l i h = rw (set_out l i v h) (sets_out vs l (suc i) (omega arith))

-- F n: the list b after n turns, of which turn k stores `vals k` from `place k` on
pub record Turns (b : List ℕ) (F : ℕ → List ℕ) (place : ℕ → ℕ) (vals : ℕ → List ℕ) : Type 0 where
  pub start : b ≡ F zero
  pub turn : (k : ℕ) → F (suc k) ≡ sets (F k) (place k) (vals k)

module _ {b : List ℕ} {F : ℕ → List ℕ} {place : ℕ → ℕ} {vals : ℕ → List ℕ} (t : Turns b F place vals) where
  -- one turn more, at a count that the code takes up by one
  pub turned : (k : ℕ) {d x : List ℕ} → d ≡ F k → x ≡ sets d (place k) (vals k) → x ≡ F (k + 1)
  turned k p q = q ∙ rw (p, add-one k) (sym (t.turn k))

  turns_length : (n : ℕ) → length (F n) ≡ length b
  turns_length zero = ap length (sym t.start)
  turns_length (suc n) = ap length (t.turn n) ∙ length-sets (F n) (place n) (vals n) ∙ turns_length n

  pub turned_length : (n : ℕ) {d : List ℕ} → d ≡ F n → length d ≡ length b
  turned_length n p = ap length p ∙ turns_length n

  -- n turns that store past the end change nothing
  turns_past : (m n : ℕ) → ((k : ℕ) → k < n → length b ≤ place (m + k)) → F (m + n) ≡ F m
  turns_past m zero past = ap F (omega arith)
  turns_past m (suc n) past =
      ap F (add-suc m n) ∙ t.turn (m + n)
      ∙ sets_out (vals (m + n)) (F (m + n)) (place (m + n)) (omega (arith, turns_length (m + n), past n (omega arith)))
      ∙ turns_past m n (λ k h. past k (omega arith))

  -- a loop may end at m, where the turns from m on store past the end
  pub turns_end : (m n : ℕ) {d : List ℕ} → d ≡ F m → m ≤ n → ((k : ℕ) → k < n - m → length b ≤ place (m + k)) → d ≡ F n
  turns_end m n p le past = let e : m + (n - m) ≡ n = omega arith in p ∙ sym (turns_past m (n - m) past) ∙ ap F e

pub words_stored : (ws b : List ℕ) → Turns b (λ (k : ℕ). store_words k ws b) (λ (k : ℕ). 4 * k) (λ (k : ℕ). le_bytes (get_or ws k 0))
unfolding store_words
words_stored ws b = record { start = refl; turn = λ (k : ℕ). refl }

pub part_stored : (w skip : ℕ) (b : List ℕ) → Turns b (λ (k : ℕ). store_part k w skip b) (λ (k : ℕ). k) (λ (k : ℕ). get_or (le_bytes w) (skip + k) 0 ∷ [])
unfolding store_part
part_stored w skip b = record { start = refl; turn = λ (k : ℕ). refl }

pub words_loaded : (b ws : List ℕ) → Turns ws (λ (k : ℕ). load_words k b ws) (λ (k : ℕ). k) (λ (k : ℕ). le_word b (4 * k) ∷ [])
unfolding load_words
words_loaded b ws = record { start = refl; turn = λ (k : ℕ). refl }

pub bytes_patched : (w skip : ℕ) (b : List ℕ) → Turns (le_bytes w) (λ (k : ℕ). patch_bytes k w skip b) (λ (k : ℕ). skip + k) (λ
    (k : ℕ). get_or b k 0 ∷ [])
unfolding patch_bytes
bytes_patched w skip b = record { start = refl; turn = λ (k : ℕ). refl }

-- a place past the end is the end
pub take_min : (at : ℕ) (b : List ℕ) → take (min at (length b)) b ≡ take at b
take_min zero b = rw (zero-min (length b))
take_min (suc at) [] = rw (min-zero (suc at))
take_min (suc at) (x ∷ b) = rw (suc-min-suc at (length b)) (ap (λ (r : List ℕ). x ∷ r) (take_min at b))

pub drop_min : (at : ℕ) (b : List ℕ) → drop (min at (length b)) b ≡ drop at b
drop_min zero b = rw (zero-min (length b))
drop_min (suc at) [] = rw (min-zero (suc at))
drop_min (suc at) (x ∷ b) = rw (suc-min-suc at (length b)) (drop_min at b)

-- the end of a buffer from place `at` on, lent from i on, which is `at` or the buffer's end
module _ (at : ℕ) (b : List ℕ) (i : ℕ) (e : i ≡ min at (length b)) where
  short : length (drop i b) ≤ length b - i
  short = omega (arith, length-drop i b)

  pub end_lent : take (length b - i) (drop i b) ≡ drop at b
  end_lent = take_all (length b - i) (drop i b) short ∙ rw e (drop_min at b)

  -- put back as l, which f makes of it: the law of every store into the end of a buffer
  pub end_back : (f : List ℕ → List ℕ) (l : List ℕ) → l ≡ f (take (length b - i) (drop i b))
      → take i b ++ (l ++ drop (length b - i) (drop i b)) ≡ from_place at f b
  end_back f l h = rw (drop_of_length-le (drop i b) short, append-nil l, h, end_lent, e, take_min at b)
