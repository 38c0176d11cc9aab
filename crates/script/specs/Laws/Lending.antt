-- What a call is lent, as zeros at first. Serves the proofs.
use Rattle.std.specs.Prelude.{ℕ, zero, suc, ◌-◌, ◌/◌, ◌≤◌, ◌≡◌, refl, length, drop, replicate}
use Rattle.std.proofs.Math.Path.{ap}
use Rattle.std.proofs.Common.{◌∙◌, not-suc-le-zero, arith}
use mathlib.Core.List.{List, ◌∷◌}
use Rattle.std.proofs.Math.ListN.{take}
use Rattle.std.proofs.lemmas.List.{length-replicate}
use Rattle.script_form.specs.BigEndian.{word, row}
use Rattle.script_request.specs.Request.{words_of, bytes_of}
use Rattle.script_request.specs.declared.Buffer.{Buffer}
use Rattle.script_request.specs.declared.Buffer.TheVariants as B

-- how many words and bytes, by the number of bytes behind the call's number
abbrev pub word_count : Buffer → ℕ → ℕ
word_count B.Nothing n = 0
word_count (B.Words k) n = k
word_count (B.Bytes k) n = 0
word_count (B.GivenWords size) n = (n - size) / 4
word_count B.GivenBytes n = 0
word_count B.Frame n = 0

abbrev pub byte_count : Buffer → ℕ → ℕ
byte_count B.Nothing n = 0
byte_count (B.Words k) n = 0
byte_count (B.Bytes k) n = k
byte_count (B.GivenWords size) n = 0
byte_count B.GivenBytes n = n - 4
byte_count B.Frame n = 0

-- zeros, shut so that no proof computes thousands of them
unfoldable pub zeros : ℕ → List ℕ
zeros n = replicate n 0

pub record Zeros (b : Buffer) (a ws bs : List ℕ) : Type 0 where
  pub short : length a ≤ 65536
  pub words : ws ≡ replicate (word_count b (length a)) 0
  pub buf : bs ≡ replicate (byte_count b (length a)) 0

take_replicate : (n m : ℕ) → n ≤ m → take {A = ℕ} n (replicate m 0) ≡ replicate n 0
take_replicate zero m h = refl
take_replicate (suc n) zero h = absurd (not-suc-le-zero h)
take_replicate (suc n) (suc m) h = ap (λ (l : List ℕ). 0 ∷ l) (take_replicate n m (omega arith))

-- a part of so many zeros
module _ (n m : ℕ) {l : List ℕ} (h : n ≤ m) (e : l ≡ zeros m) where
  pub part_zeros : take n l ≡ replicate n 0
  unfolding zeros
  part_zeros = ap (λ (x : List ℕ). take n x) e ∙ take_replicate n m h

-- nothing is loaded over the zeros of most calls
pub untouched : {b : Buffer} {a ws bs : List ℕ} → Zeros b a ws bs → ((size : ℕ) → b ≡ B.GivenWords size → ⊥) → (b ≡ B.GivenBytes → ⊥)
    → (ws ≡ words_of b a) × (bs ≡ bytes_of b a)
unfolding words_of bytes_of
untouched {b = B.Nothing} z h k = (z.words, z.buf)
untouched {b = B.Words n} z h k = (z.words, z.buf)
untouched {b = B.Bytes n} z h k = (z.words, z.buf)
untouched {b = B.GivenWords size} z h k = absurd (h size refl)
untouched {b = B.GivenBytes} z h k = absurd (k refl)
untouched {b = B.Frame} z h k = (z.words, z.buf)

module _ {b : Buffer} {a ws bs : List ℕ} (z : Zeros b a ws bs) where
  pub few_words : {size : ℕ} → b ≡ B.GivenWords size → length ws ≡ (length a - size) / 4
  few_words {size} e = ap length z.words ∙ length-replicate (word_count b (length a)) 0 ∙ ap (λ b. word_count b (length a)) e

  pub few_bytes : b ≡ B.GivenBytes → length bs ≡ length a - 4
  few_bytes e = ap length z.buf ∙ length-replicate (byte_count b (length a)) 0 ∙ ap (λ b. byte_count b (length a)) e

  pub given_words : {size : ℕ} (w : List ℕ) → b ≡ B.GivenWords size → length w ≡ length ws → w ≡ row (word a) 4 (length w) size
      → (w ≡ words_of b a) × (bs ≡ bytes_of b a)
  unfolding words_of bytes_of
  given_words {size} w e l h = rw e (h ∙ ap (λ (n : ℕ). row (word a) 4 n size) (l ∙ few_words e), rw e at z.buf)

  pub given_bytes : (w : List ℕ) → b ≡ B.GivenBytes → w ≡ drop 4 a → (ws ≡ words_of b a) × (w ≡ bytes_of b a)
  unfolding words_of bytes_of
  given_bytes w e h = rw e (rw e at z.words, h)
