-- A delivered transfer by the register that was decoded, and by the row of its request: at a given request `by_row` leaves the one
-- or two registers that it can reach. Serves the proofs only.
use Rattle.std.specs.Prelude.{Bool, true, false, not, ◌&&◌, cond, ◌≡◌, refl, List, ℕ, eqb}
use Rattle.std.proofs.Common.{true≢false, sym, ◌∙◌}
use Rattle.target.specs.declared.Target.{Target}
use Rattle.target.specs.declared.Register.{Register}
use Rattle.target.specs.Decode.{Row, everywhere, banked, row_of, at_bank, bank_of, register_of}
use Rattle.target.specs.Deliver.{Delivery, fault, exempt, reach, access, transfer}

pub transfer_at : (t : Target) (m : List ℕ) (request w : ℕ) (r : Register) → r ≡ register_of request t.select
    → transfer t m request w ≡ access r t m w
unfolding transfer
transfer_at t m request w r e = rw e

-- either branch of a choice
pub either {ℓ} : {A : Type ℓ} (P : A → Type 0) (b : Bool) {x y : A} → (b ≡ true → P x) → (b ≡ false → P y) → P (cond b x y)
either P true p q = p refl
either P false p q = q refl

-- what holds of each register that a row reaches at a bank
abbrev pub Each : Row → ℕ → (Register → Type 0) → Type 0
Each (everywhere r) bank F = F r
Each (banked r s) bank F = (eqb bank 0 ≡ true → F r) × (eqb bank 0 ≡ false → F s)

each_at : (w : Row) (bank : ℕ) (F : Register → Type 0) → Each w bank F → F (at_bank w bank)
each_at (everywhere r) bank F h = h
each_at (banked r s) bank F h = either F (eqb bank 0) h.0 h.1

-- A delivered transfer is refused with FAULT, which leaves all as it was, or it reaches a register of its row; one that is not
-- exempt only while sticky is clear.
pub by_row : (t : Target) (m : List ℕ) (q w : ℕ) (P : Delivery → Type 0)
    → (t.sticky ≡ true → P (record { reply = fault; target = t; mem = m }))
    → Each (row_of q) (bank_of q t.select) (λ r. (exempt r ≡ false → t.sticky ≡ false) → P (reach r t m w))
    → P (transfer t m q w)
unfolding transfer
by_row t m q w P f h =
    go t.sticky refl (exempt r) refl (each_at (row_of q) (bank_of q t.select) (λ r. (exempt r ≡ false → t.sticky ≡ false) → P (reach r t m w)) h)
  where
    r : Register
    r = register_of q t.select

    go : (s : Bool) → t.sticky ≡ s → (x : Bool) → exempt r ≡ x → ((exempt r ≡ false → t.sticky ≡ false) → P (reach r t m w))
        → P (cond (s && not x) (record { reply = fault; target = t; mem = m }) (reach r t m w))
    go true e true x g = g (λ z. absurd (true≢false (sym x ∙ z)))
    go true e false x g = f e
    go false e x y g = g (λ z. e)
