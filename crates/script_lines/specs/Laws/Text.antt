-- Laws of the texts of numbers. Serves the proofs.
use Rattle.std.specs.Prelude.{ℕ, zero, suc, ◌+◌, ◌-◌, ◌/◌, ◌%◌, ◌≤◌, ◌<◌, ◌≡◌, refl, List, [], ◌∷◌, ◌++◌, map, length, get_or, take}
use Rattle.std.proofs.Common.{ap, sym, ◌∙◌, lt-ltb, le-ltb, le-leb, arith, add-zero, append_assoc, append-nil, length-take}
use Rattle.std.proofs.lemmas.List.{take_more}
use Rattle.std.proofs.lemmas.Bool.{lt-leb}
use Rattle.wire.specs.Laws.Numbers.{less}
use Rattle.wire_numbers.specs.declared.CallEnding.{CallEnding}
use Rattle.wire_numbers.specs.Log.{call_of}
use Rattle.script_lines.specs.Text.{digit, digits, hex, together}
use Rattle.script_lines.specs.Listing.{call_line, call_lines, run_lines, listed}
use Rattle.script_lines.specs.declared.Shown.{Shown}

pub digits_none : (n : ℕ) → digits 0 n ≡ []
unfolding digits
digits_none n = refl

pub digits_few : (k n : ℕ) → (k ≡ 0 → ⊥) → n < 10 → digits k n ≡ digit n ∷ []
unfolding digits
digits_few zero n h f = absurd (h refl)
digits_few (suc k) n h f = rw (lt-ltb n 10 f)

pub digits_more : (k n : ℕ) → (k ≡ 0 → ⊥) → 10 ≤ n → digits k n ≡ digits (k - 1) (n / 10) ++ (digit (n % 10) ∷ [])
unfolding digits
digits_more zero n h f = absurd (h refl)
digits_more (suc k) n h f = rw (le-ltb n 10 f) (ap (λ (j : ℕ). digits j (n / 10) ++ (digit (n % 10) ∷ [])) (less k))

pub hex_none : (n : ℕ) → hex 0 n ≡ []
unfolding hex
hex_none n = refl

pub hex_more : (k n : ℕ) → (k ≡ 0 → ⊥) → hex k n ≡ hex (k - 1) (n / 16) ++ (digit (n % 16) ∷ [])
unfolding hex
hex_more zero n h = absurd (h refl)
hex_more (suc k) n h = ap (λ (j : ℕ). hex j (n / 16) ++ (digit (n % 16) ∷ [])) (less k)

-- the last item's text stands behind the others'
together_last : {A : Type 0} (f : A → List ℕ) (ys : List A) (y : A) → together f (ys ++ y ∷ []) ≡ together f ys ++ f y
unfolding together
together_last f [] y = append-nil (f y)
together_last f (z ∷ ys) y = ap (λ t. f z ++ t) (together_last f ys y) ∙ sym (append_assoc (f z) (together f ys) (f y))

-- one item more of a list that is put item by item
pub together_more : {A : Type 0} (f : A → List ℕ) (xs : List A) (i : ℕ) (x : A) → i < length xs → x ≡ get_or xs i x
    → together f (take (i + 1) xs) ≡ together f (take i xs) ++ f x
together_more f xs i x lt e =
    ap (λ ys. together f ys) (take_more xs i x lt ∙ ap (λ y. take i xs ++ y ∷ []) (sym e)) ∙ together_last f (take i xs) x

lines_last : (n : ℕ) (ys : List ℕ) (y : ℕ) → call_lines n (map call_of (ys ++ y ∷ [])) ≡ call_lines n (map call_of ys) ++ call_line (n + length ys) (call_of y)
unfolding call_lines
lines_last n [] y = append-nil (call_line n (call_of y)) ∙ ap (λ k. call_line k (call_of y)) (sym (add-zero n))
lines_last n (z ∷ ys) y =
    ap (λ t. call_line n (call_of z) ++ t) (lines_last (suc n) ys y)
    ∙ sym (append_assoc (call_line n (call_of z)) (call_lines (suc n) (map call_of ys)) (call_line (suc n + length ys) (call_of y)))
    ∙ ap (λ k. call_line n (call_of z) ++ call_lines (suc n) (map call_of ys) ++ call_line k (call_of y)) (next n (length ys))
  where
    next : (n m : ℕ) → suc n + m ≡ n + suc m
    next n m = omega arith

-- the same of the lines of calls, whose numbers go up
pub lines_more : (xs : List ℕ) (i : ℕ) → i < length xs
    → call_lines 1 (map call_of (take (i + 1) xs)) ≡ call_lines 1 (map call_of (take i xs)) ++ call_line (i + 1) (call_of (get_or xs i 0))
lines_more xs i lt =
    let e : length (take i xs) ≡ i = grind (arith, length-take) in
    let n : 1 + length (take i xs) ≡ i + 1 = omega arith in
    ap (λ ys. call_lines 1 (map call_of ys)) (take_more xs i 0 lt) ∙ lines_last 1 (take i xs) (get_or xs i 0)
    ∙ ap (λ n. call_lines 1 (map call_of (take i xs)) ++ call_line n (call_of (get_or xs i 0))) n

module _ (log : List ℕ) (e : CallEnding) (s : Shown) (words buf : List ℕ) where
  pub listed_all : length log + length words + length buf ≤ 0xFFFFFFFF → listed log e s words buf ≡ run_lines log e s words buf
  unfolding listed
  listed_all h = rw (le-leb _ _ h)

  pub listed_none : 0xFFFFFFFF < length log + length words + length buf → listed log e s words buf ≡ []
  unfolding listed
  listed_none h = rw (lt-leb _ _ h)
