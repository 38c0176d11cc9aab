-- An error and an outcome as two numbers. Serves the proofs only: what is told is read back as itself.
use Rattle.std.specs.Prelude.{ℕ, ◌%◌, ◌≤◌, Bool, true, false, List, [], ◌∷◌, ◌≡◌, eqb, get_or, Ok, Err}
use Rattle.std.proofs.Common.{sym, ap, subst, ◌∙◌, arith, ne_eqb}
use Rattle.wire.specs.declared.ArmError.{ArmError}
use Rattle.wire.specs.declared.ArmError.TheVariants as E
use Rattle.wire.specs.Outcomes.{Outcome}
use Rattle.wire.specs.declared.Told.{Told}

-- an error by its number, and an outcome: 10 is a value
abbrev pub errors : ℕ → List ArmError
errors ack =
    E.Transfer (ack % 256) ∷ E.Wait ∷ E.NotSupported ∷ E.PowerUpTimeout ∷ E.CoreTimeout ∷ E.NoTarget ∷ E.Internal ∷ E.Range ∷ E.Align ∷ []

abbrev pub error_of : ℕ → ℕ → ArmError
error_of n ack = get_or (errors ack) n E.TableEnd

abbrev pub outcome_as : Bool → ℕ → ℕ → Outcome
outcome_as true n v = Ok v
outcome_as false n v = Err (error_of n v)

abbrev pub outcome_of : ℕ → ℕ → Outcome
outcome_of n v = outcome_as (eqb n 10) n v

pub error_is : (n : ℕ) {r : Told} {e : ArmError} → r ≡ record { number = n; value = 0 } → error_of n 0 ≡ e → n ≤ 9
    → (error_of r.number r.value ≡ e) × (r.number ≤ 9)
error_is n {r} {e} h g l = subst (λ (r : Told). (error_of r.number r.value ≡ e) × (r.number ≤ 9)) (sym h) (g, l)

pub ack_is : (w : ℕ) {e : ArmError} {ack : ℕ} → e ≡ E.Transfer ack → w % 256 ≡ ack → (E.Transfer (w % 256) ≡ e) × (0 ≤ 9)
ack_is w h g = (ap E.Transfer g ∙ sym h, omega arith)

-- an error's number is none of a value's
pub error_outcome : (n v : ℕ) (e : ArmError) → n ≤ 9 → error_of n v ≡ e → outcome_of n v ≡ Err e
error_outcome n v e l h = simp (ne_eqb n 10 (λ q. few n l q)) (ap Err h)
  where
    few : (n : ℕ) → n ≤ 9 → n ≡ 10 → ⊥
    few n l q = omega (arith, l, q)
