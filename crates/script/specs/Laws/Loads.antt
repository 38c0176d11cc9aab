-- Lists that a loop fills number by number. Serves the proofs.
use Rattle.std.specs.Prelude.{ℕ, suc, ◌+◌, ◌*◌, ◌<◌, ◌≤◌, ◌≡◌, refl, List, [], ◌∷◌, ◌++◌, length, set, take}
use Rattle.std.proofs.Common.{arith, ap, sym, subst, ◌∙◌, length-take, take_all}
use Rattle.std.proofs.lemmas.List.{take_more_set}
use Rattle.script_form.specs.BigEndian.{row}

-- R holds of each item and its place, the first at place i, each `size` places behind the one before
abbrev pub Row : {X : Type 0} → (ℕ → X → Type 0) → ℕ → ℕ → List X → Type 0
Row R size i [] = Unit {0}
Row R size i (x ∷ xs) = R i x × Row R size (i + size) xs

-- one item more at the end
append : {X : Type 0} (R : ℕ → X → Type 0) (size i n : ℕ) (xs : List X) (x : X) → n ≡ i + size * length xs → Row R size i xs → R n x
    → Row R size i (xs ++ x ∷ [])
append R size i n [] x e h r =
    let z : n ≡ i = simp e (omega arith) in
    (subst (λ k. R k x) z r, tt)
append R size i n (y ∷ xs) x e h r = (h.0, append R size (i + size) n xs x (e ∙ next size i (length xs)) h.1 r)
  where
    next : (size i m : ℕ) → i + size * suc m ≡ i + size + size * m
    next size i m = grind arith

-- the place behind the first k gets its item
pub row_more : {X : Type 0} (R : ℕ → X → Type 0) (size i k : ℕ) (xs : List X) (x : X) → k < length xs → Row R size i (take k xs)
    → R (i + size * k) x → Row R size i (take (k + 1) (set xs k x))
row_more R size i k xs x lt h r =
    let e : length (take k xs) ≡ k = grind (arith, length-take) in
    subst (λ ys. Row R size i ys) (sym (take_more_set xs k x lt))
    (append R size i (i + size * k) (take k xs) x (ap (λ n. i + size * n) (sym e)) h r)

-- all places are filled
pub row_done : {X : Type 0} (R : ℕ → X → Type 0) (size i k : ℕ) (xs : List X) → length xs ≤ k → Row R size i (take k xs) → Row R size i xs
row_done R size i k xs le h = subst (λ ys. Row R size i ys) (take_all k xs le) h

-- they are the row of f where R tells what f gives
pub row_of : (f : ℕ → ℕ) (R : ℕ → ℕ → Type 0) → ((k x : ℕ) → R k x → x ≡ f k) → (size i : ℕ) (xs : List ℕ) → Row R size i xs
    → xs ≡ row f size (length xs) i
unfolding row
row_of f R e size i [] h = refl
row_of f R e size i (x ∷ xs) h =
    ap (λ y. y ∷ xs) (e i x h.0) ∙ ap (λ ys. f i ∷ ys) (row_of f R e size (i + size) xs h.1)
