-- Words and their bytes in a list: a word of bytes has these bytes, and a word that is put has its own and leaves the others.
-- Serves the proofs only.
use Rattle.std.specs.Prelude.{ℕ, zero, suc, ◌+◌, ◌-◌, ◌*◌, ◌/◌, ◌%◌, ◌≤◌, ◌<◌, ◌≡◌, refl, List, [], ◌∷◌, length, get_or, set}
use Rattle.std.proofs.Common.{sym, ap, ◌∙◌, add-zero, arith, length-set, get_or-set_other, get_or-set_same}
use Rattle.std.proofs.Math.Decide.{dec_lt}
use Rattle.std.proofs.lemmas.List.Edits.{sets}
use Rattle.std.proofs.Math.Seq.{length-sets}
use Rattle.wire.specs.Bytes.{le_bytes, le_word, put_word}
use Rattle.agreement.specs.Demand3.{Bytes}

-- where a place j lies with respect to the four from p on
pub data Lies (j p : ℕ) : Type 0 where
  before : j < p → Lies j p
  within : (i : ℕ) → i < 4 → j ≡ p + i → Lies j p
  beyond : p + 4 ≤ j → Lies j p

pub lies : (j p : ℕ) → Lies j p
lies j p = first (dec_lt j p) (dec_lt j (p + 4))
  where
    first : Dec (j < p) → Dec (j < p + 4) → Lies j p
    first (yes h) d = before h
    first (no h) (yes k) = within (j - p) (omega arith) (omega arith)
    first (no h) (no k) = beyond (omega arith)

-- the word of four bytes
abbrev four : ℕ → ℕ → ℕ → ℕ → ℕ
four a b c d = a + 256 * b + 65536 * c + 16777216 * d

byte_0 : (a b c d : ℕ) → a < 256 → b < 256 → c < 256 → d < 256 → four a b c d % 256 ≡ a
byte_0 a b c d p q r s = omega arith

byte_1 : (a b c d : ℕ) → a < 256 → b < 256 → c < 256 → d < 256 → four a b c d / 256 % 256 ≡ b
byte_1 a b c d p q r s = omega arith

byte_2 : (a b c d : ℕ) → a < 256 → b < 256 → c < 256 → d < 256 → four a b c d / 256 / 256 % 256 ≡ c
byte_2 a b c d p q r s = omega arith

byte_3 : (a b c d : ℕ) → a < 256 → b < 256 → c < 256 → d < 256 → four a b c d / 256 / 256 / 256 % 256 ≡ d
byte_3 a b c d p q r s = omega arith

-- the bytes of a word at place p are those in the list
pub word_bytes : (m : List ℕ) (p i : ℕ) → Bytes m → i < 4 → get_or (le_bytes (le_word m p)) i 0 ≡ get_or m (p + i) 0
word_bytes m p zero b h = byte_0 _ _ _ _ (b p) (b (p + 1)) (b (p + 2)) (b (p + 3)) ∙ ap (λ (j : ℕ). get_or m j 0) (sym (add-zero p))
word_bytes m p (suc zero) b h = byte_1 _ _ _ _ (b p) (b (p + 1)) (b (p + 2)) (b (p + 3))
word_bytes m p (suc (suc zero)) b h = byte_2 _ _ _ _ (b p) (b (p + 1)) (b (p + 2)) (b (p + 3))
word_bytes m p (suc (suc (suc zero))) b h = byte_3 _ _ _ _ (b p) (b (p + 1)) (b (p + 2)) (b (p + 3))
word_bytes m p (suc (suc (suc (suc i)))) b h = absurd (omega arith)

-- a row of stores at each place: before it, in it, beyond it
sets_before : (vs l : List ℕ) (p j : ℕ) → j < p → get_or (sets l p vs) j 0 ≡ get_or l j 0
sets_before [] l p j h = refl
sets_before (v ∷ vs) l p j h = sets_before vs (set l p v) (suc p) j (omega arith) ∙ get_or-set_other l p j v 0 (omega arith)

sets_within : (vs l : List ℕ) (p i : ℕ) → p + length vs ≤ length l → i < length vs → get_or (sets l p vs) (p + i) 0 ≡ get_or vs i 0
sets_within [] l p i b h = absurd (omega arith)
sets_within (v ∷ vs) l p zero b h =
    rw (add-zero p) (sets_before vs (set l p v) (suc p) p (omega arith) ∙ get_or-set_same l p v 0 (omega arith))
sets_within (v ∷ vs) l p (suc i) b h =
    let e : p + suc i ≡ suc p + i = omega arith in
    rw e (sets_within vs (set l p v) (suc p) i (omega (arith, length-set l p v)) (omega arith))

sets_beyond : (vs l : List ℕ) (p j : ℕ) → p + length vs ≤ j → get_or (sets l p vs) j 0 ≡ get_or l j 0
sets_beyond [] l p j h = refl
sets_beyond (v ∷ vs) l p j h = sets_beyond vs (set l p v) (suc p) j (omega arith) ∙ get_or-set_other l p j v 0 (omega arith)

pub put_size : (m : List ℕ) (p w : ℕ) → length (put_word m p w) ≡ length m
put_size m p w = length-sets m p (le_bytes w)

pub put_before : (m : List ℕ) (p w j : ℕ) → j < p → get_or (put_word m p w) j 0 ≡ get_or m j 0
put_before m p w j h = sets_before (le_bytes w) m p j h

pub put_within : (m : List ℕ) (p w : ℕ) → p + 4 ≤ length m → (i : ℕ) → i < 4 → get_or (put_word m p w) (p + i) 0 ≡ get_or (le_bytes w) i 0
put_within m p w l i h = sets_within (le_bytes w) m p i l h

pub put_beyond : (m : List ℕ) (p w j : ℕ) → p + 4 ≤ j → get_or (put_word m p w) j 0 ≡ get_or m j 0
put_beyond m p w j h = sets_beyond (le_bytes w) m p j h
