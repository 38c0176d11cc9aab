-- Text that is put into a list piece by piece. What falls outside the list is dropped. Serves the proofs.
use Rattle.std.specs.Prelude.{ℕ, suc, ◌+◌, ◌≡◌, List, [], ◌∷◌, ◌++◌, length, set}
use Rattle.std.proofs.Common.{ap, ◌∙◌, arith, length-append}
use Rattle.std.proofs.lemmas.List.Edits.{sets}

-- l₁ is l with the text t from place i on, and r is the place behind it
pub record Puts (l : List ℕ) (i : ℕ) (t : List ℕ) (l₁ : List ℕ) (r : ℕ) : Type 0 where
  pub place : r ≡ i + length t
  pub text : l₁ ≡ sets l i t

pub sets_append : (l : List ℕ) (i : ℕ) (a b : List ℕ) → sets (sets l i a) (i + length a) b ≡ sets l i (a ++ b)
sets_append l i [] b = ap (λ (n : ℕ). sets l n b) (none i)
  where
    none : (i : ℕ) → i + 0 ≡ i
    none i = omega arith
sets_append l i (x ∷ a) b = ap (λ (n : ℕ). sets (sets (set l i x) (suc i) a) n b) (more i (length a)) ∙ sets_append (set l i x) (suc i) a b
  where
    more : (i n : ℕ) → i + suc n ≡ suc i + n
    more i n = omega arith

-- a text and then another
pub puts_then : {l : List ℕ} {i : ℕ} {a l₁ : List ℕ} {r : ℕ} {b l₂ : List ℕ} {s : ℕ} → Puts l i a l₁ r → Puts l₁ r b l₂ s → Puts l i (a ++ b) l₂ s
puts_then {l} {i} {a} {l₁} {r} {b} {l₂} {s} p q =
    record {
      place = q.place ∙ ap (λ (n : ℕ). n + length b) p.place ∙ joined i (length a) (length b) (length (a ++ b)) (length-append a b);
      text = q.text ∙ ap (λ (n : ℕ). sets l₁ n b) p.place ∙ ap (λ (x : List ℕ). sets x (i + length a) b) p.text ∙ sets_append l i a b;
    }
  where
    joined : (i m n k : ℕ) → k ≡ m + n → i + m + n ≡ i + k
    joined i m n k h = omega arith
