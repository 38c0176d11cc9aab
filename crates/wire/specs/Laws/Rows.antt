-- A table by number, and a number that none of its rows has; a list of so many words, word by word. Serves the proofs only.
use Rattle.std.specs.Prelude.{ℕ, zero, suc, ◌+◌, ◌≤◌, List, [], ◌∷◌, ◌≡◌, refl, length, get_or, drop}
use Rattle.std.proofs.Common.{zero-le, sym, ap, arith}
use Rattle.std.proofs.Math.ListN.{get_or-eq_default}

-- none of the k numbers below k, as a match tells it
abbrev pub none_below : ℕ → ℕ → Type 0
none_below zero n = Unit {0}
none_below (suc k) n = none_below k n × (n ≡ k → ⊥)

at_least : (k n : ℕ) → none_below k n → k ≤ n
at_least zero n h = zero-le
at_least (suc k) n h = let p : k ≤ n = at_least k n h.0 in let q : n ≡ k → ⊥ = h.1 in omega arith

-- the same of the k numbers from s on
abbrev pub none_from : ℕ → ℕ → ℕ → Type 0
none_from s zero n = Unit {0}
none_from s (suc k) n = none_from s k n × (n ≡ s + k → ⊥)

pub from_least : (s k n : ℕ) → s ≤ n → none_from s k n → s + k ≤ n
from_least s zero n l h = omega arith
from_least s (suc k) n l h = let p : s + k ≤ n = from_least s k n l h.0 in let q : n ≡ s + k → ⊥ = h.1 in omega arith

pub past : {A : Type 0} (rows : List A) (n : ℕ) (d : A) → length rows ≤ n → d ≡ get_or rows n d
past rows n d h = sym (get_or-eq_default rows d h)

pub past_rows : {A : Type 0} (rows : List A) (n : ℕ) (d : A) → none_below (length rows) n → d ≡ get_or rows n d
past_rows rows n d h = past rows n d (at_least (length rows) n h)

-- where the number is known
pub at_row : {A : Type 0} (rows : List A) (d : A) {n k : ℕ} → n ≡ k → get_or rows k d ≡ get_or rows n d
at_row rows d h = ap (λ (i : ℕ). get_or rows i d) (sym h)

-- the first n words of a list
abbrev pub spell : ℕ → List ℕ → List ℕ
spell zero m = []
spell (suc n) m = get_or m 0 0 ∷ spell n (drop 1 m)

pub spelled : (n : ℕ) (m : List ℕ) → length m ≡ n → spell n m ≡ m
spelled zero [] h = refl
spelled zero (x ∷ m) h = absurd (omega arith)
spelled (suc n) [] h = absurd (omega arith)
spelled (suc n) (x ∷ m) h = ap (λ (l : List ℕ). x ∷ l) (spelled n m (omega arith))
