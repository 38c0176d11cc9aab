-- What a delivered transfer keeps of the target and its memory. Serves the proofs only.
use Rattle.std.specs.Prelude.{ℕ, ◌%◌, Bool, true, false, ◌&&◌, List, ◌≡◌, refl, eqb, T}
use Rattle.std.proofs.Common.{true≢false, sym, ◌∙◌}
use Rattle.target.specs.Decode.{Row, everywhere, banked, row_of, at_bank, bank_of, register_of}
use Rattle.target.specs.Deliver.{Delivery, fault, exempt, barred, reach, transfer as delivered}
use Rattle.target.specs.Laws.Deliver.{either, by_row}
use Rattle.target.specs.Memory.{in_memory}
use Rattle.target.specs.MemAp.{word_address_of, memory_after}
use Rattle.target.specs.declared.Target.{Target}
use Rattle.target.specs.declared.Done.{Done}
use Rattle.target.specs.declared.Register.{Register}
use Rattle.target.specs.declared.Register.TheVariants.{Dp, Ap}
use Rattle.target.specs.declared.DpRegister.TheVariants as D
use Rattle.target.specs.declared.ApRegister.TheVariants as A

-- an access that writes neither SELECT nor CSW
abbrev pub steady : Register → Bool
steady (Dp D.AbortWrite) = true
steady (Dp D.DpidrRead) = true
steady (Dp D.CtrlStatWrite) = true
steady (Dp D.CtrlStatRead) = true
steady (Dp D.SelectWrite) = false
steady (Dp D.RdbuffRead) = true
steady (Dp D.OtherRead) = true
steady (Dp D.OtherWrite) = true
steady (Ap A.CswWrite) = false
steady (Ap A.CswRead) = true
steady (Ap A.TarWrite) = true
steady (Ap A.TarRead) = true
steady (Ap A.DrwWrite) = true
steady (Ap A.DrwRead) = true
steady (Ap A.OtherRead) = true
steady (Ap A.OtherWrite) = true

-- an access that does not write DRW
abbrev pub quiet : Register → Bool
quiet (Dp r) = true
quiet (Ap A.CswWrite) = true
quiet (Ap A.CswRead) = true
quiet (Ap A.TarWrite) = true
quiet (Ap A.TarRead) = true
quiet (Ap A.DrwWrite) = false
quiet (Ap A.DrwRead) = true
quiet (Ap A.OtherRead) = true
quiet (Ap A.OtherWrite) = true

-- of every register that a row reaches
abbrev pub over : (Register → Bool) → Row → Bool
over f (everywhere r) = f r
over f (banked r s) = f r && f s

-- a request all of whose registers are such
abbrev pub Steady : ℕ → Type 0
Steady q = T (over steady (row_of q))

abbrev pub Quiet : ℕ → Type 0
Quiet q = T (over quiet (row_of q))

-- width and base never change; SELECT and CSW where the access is steady, and memory where it is quiet, do not
pub record Leaves (Steadily Quietly : Type 0) (t : Target) (mem : List ℕ) (u : Target) (n : List ℕ) : Type 0 where
  pub width : u.width ≡ t.width
  pub base : u.base ≡ t.base
  pub select : Steadily → u.select ≡ t.select
  pub csw : Steadily → u.csw ≡ t.csw
  pub memory : Quietly → n ≡ mem

leaves_reach : (r : Register) (t : Target) (mem : List ℕ) (w : ℕ)
    → Leaves (T (steady r)) (T (quiet r)) t mem (reach r t mem w).target (reach r t mem w).mem
leaves_reach (Dp D.AbortWrite) t mem w = record { width = refl; base = refl; select = λ _. refl; csw = λ _. refl; memory = λ _. refl }
leaves_reach (Dp D.DpidrRead) t mem w = record { width = refl; base = refl; select = λ _. refl; csw = λ _. refl; memory = λ _. refl }
leaves_reach (Dp D.CtrlStatWrite) t mem w = record { width = refl; base = refl; select = λ _. refl; csw = λ _. refl; memory = λ _. refl }
leaves_reach (Dp D.CtrlStatRead) t mem w = record { width = refl; base = refl; select = λ _. refl; csw = λ _. refl; memory = λ _. refl }
leaves_reach (Dp D.SelectWrite) t mem w = record { width = refl; base = refl; select = λ h. absurd h; csw = λ _. refl; memory = λ _. refl }
leaves_reach (Dp D.RdbuffRead) t mem w = record { width = refl; base = refl; select = λ _. refl; csw = λ _. refl; memory = λ _. refl }
leaves_reach (Dp D.OtherRead) t mem w = record { width = refl; base = refl; select = λ _. refl; csw = λ _. refl; memory = λ _. refl }
leaves_reach (Dp D.OtherWrite) t mem w = record { width = refl; base = refl; select = λ _. refl; csw = λ _. refl; memory = λ _. refl }
leaves_reach (Ap A.CswWrite) t mem w = record { width = refl; base = refl; select = λ _. refl; csw = λ h. absurd h; memory = λ _. refl }
leaves_reach (Ap A.CswRead) t mem w = record { width = refl; base = refl; select = λ _. refl; csw = λ _. refl; memory = λ _. refl }
leaves_reach (Ap A.TarWrite) t mem w = record { width = refl; base = refl; select = λ _. refl; csw = λ _. refl; memory = λ _. refl }
leaves_reach (Ap A.TarRead) t mem w = record { width = refl; base = refl; select = λ _. refl; csw = λ _. refl; memory = λ _. refl }
leaves_reach (Ap A.DrwWrite) t mem w =
    either (λ (u : Target). Leaves (T true) (T false) t mem u (memory_after A.DrwWrite t mem w)) (in_memory t mem (word_address_of t))
    (λ _. record { width = refl; base = refl; select = λ _. refl; csw = λ _. refl; memory = λ h. absurd h })
    (λ _. record { width = refl; base = refl; select = λ _. refl; csw = λ _. refl; memory = λ h. absurd h })
leaves_reach (Ap A.DrwRead) t mem w =
    either (λ (d : Done). Leaves (T true) (T true) t mem d.target mem) (in_memory t mem (word_address_of t))
    (λ _. record { width = refl; base = refl; select = λ _. refl; csw = λ _. refl; memory = λ _. refl })
    (λ _. record { width = refl; base = refl; select = λ _. refl; csw = λ _. refl; memory = λ _. refl })
leaves_reach (Ap A.OtherRead) t mem w = record { width = refl; base = refl; select = λ _. refl; csw = λ _. refl; memory = λ _. refl }
leaves_reach (Ap A.OtherWrite) t mem w = record { width = refl; base = refl; select = λ _. refl; csw = λ _. refl; memory = λ _. refl }

both : (a b : Bool) → T (a && b) → T a × T b
both true b h = (tt, h)
both false b h = absurd h

over_at : (f : Register → Bool) (w : Row) (bank : ℕ) → T (over f w) → T (f (at_bank w bank))
over_at f (everywhere r) bank h = h
over_at f (banked r s) bank h = either (λ (x : Register). T (f x)) (eqb bank 0) (λ _. (both (f r) (f s) h).0) (λ _. (both (f r) (f s) h).1)

-- a delivered transfer, refused with FAULT or done
pub leaves : (t : Target) (mem : List ℕ) (q w : ℕ) → Leaves (Steady q) (Quiet q) t mem (delivered t mem q w).target (delivered t mem q w).mem
unfolding delivered
leaves t mem q w =
    either (λ (d : Delivery). Leaves (Steady q) (Quiet q) t mem d.target d.mem) (barred r t.sticky)
    (λ _. record { width = refl; base = refl; select = λ _. refl; csw = λ _. refl; memory = λ _. refl })
    (λ _. record {
      width = got.width;
      base = got.base;
      select = λ h. got.select (over_at steady (row_of q) (bank_of q t.select) h);
      csw = λ h. got.csw (over_at steady (row_of q) (bank_of q t.select) h);
      memory = λ h. got.memory (over_at quiet (row_of q) (bank_of q t.select) h);
    })
  where
    r : Register
    r = register_of q t.select

    got : Leaves (T (steady r)) (T (quiet r)) t mem (reach r t mem w).target (reach r t mem w).mem
    got = leaves_reach r t mem w

-- SELECT 0 names bank 0
pub other_bank : (q : ℕ) {select : ℕ} → select ≡ 0 → eqb (bank_of q select) 0 ≡ false → ⊥
other_bank q z n = true≢false (sym zeroth ∙ rw z at n)
  where
    zeroth : eqb (bank_of q 0) 0 ≡ true
    zeroth = either (λ (k : ℕ). eqb k 0 ≡ true) (eqb (q % 2) 0) (λ _. refl) (λ _. refl)

-- Where SELECT is 0, a banked request reaches its register of bank 0, or is refused with FAULT.
pub at_zero : (t : Target) (mem : List ℕ) (q w : ℕ) {r s : Register} (P : Delivery → Type 0) → row_of q ≡ banked r s → t.select ≡ 0
    → (t.sticky ≡ true → P (record { reply = fault; target = t; mem = mem }))
    → ((exempt r ≡ false → t.sticky ≡ false) → P (reach r t mem w)) → P (delivered t mem q w)
at_zero t mem q w P e z f g = by_row t mem q w P f (rw e ((λ _. g), λ n. absurd (other_bank q z n)))
