-- What a delivered access to DRW or RDBUFF does, where SELECT, CSW and TAR stand as a run wants them. Serves the proofs only.
use Rattle.std.specs.Prelude.{ℕ, suc, ◌+◌, ◌-◌, ◌*◌, ◌%◌, ◌≤◌, ◌<◌, Bool, true, false, ◌&&◌, cond, leb, ◌≡◌, refl, List, length}
use Rattle.std.proofs.Common.{true≢false, sym, ap, ◌∙◌, arith, leb-true}
use Rattle.std.proofs.lemmas.Bool.{false≢true}
use Rattle.wire.specs.Bytes.{put_word, le_word}
use Rattle.wire_memap.specs.Ports.{CSW_DEFAULT}
use Rattle.target.specs.Memory.{in_memory}
use Rattle.target.specs.Fields.{with_rdbuff}
use Rattle.target.specs.MemAp.{word_address_of, next_tar, advanced, failed, posted}
use Rattle.target.specs.Laws.MemAp.{goes_on}
use Rattle.target.specs.Deliver.{Delivery, ok, fault, replied, transfer as delivered}
use Rattle.target.specs.Laws.Deliver.{by_row}
use Rattle.target.specs.declared.Target.{Target}
use Rattle.agreement.specs.Laws.Facts.{at_zero}
use Rattle.agreement.specs.Laws.Got.{Held}

-- the target in a run, whatever its TAR
pub record Poised (base : ℕ) (t : Target) : Type 0 where
  pub select : t.select ≡ 0
  pub csw : t.csw ≡ CSW_DEFAULT
  pub width : 10 ≤ t.width
  pub start : t.base ≡ base

abbrev pub delivery : ℕ → Target → List ℕ → Delivery
delivery v t mem = record { reply = ok v; target = t; mem = mem }

abbrev pub refused : Target → List ℕ → Delivery
refused t mem = record { reply = fault; target = t; mem = mem }

-- n words from a on lie within 1 KiB
abbrev pub InKiB : (a n : ℕ) → Type 0
InKiB a n = a % 1024 + 4 * n ≤ 1024

-- TAR stands at word j of a run from a on, as long as words are due. After the last one nothing is said of it: at the end of 1 KiB it
-- wraps or carries, as the width has it.
abbrev pub TarAt : (a due j : ℕ) → Target → Type 0
TarAt a due j t = 0 < due → t.tar ≡ a + 4 * j

-- from word j to the next one, whatever the width
pub tar_then : {base : ℕ} {t : Target} → Poised base t → (a n due j : ℕ) → InKiB a n → j + suc due ≡ n → t.tar ≡ a + 4 * j
    → TarAt a due (suc j) (advanced t)
tar_then {t = t} r a n due j fits count tar some =
    let next : next_tar t ≡ a + 4 * j + 4 = rw (r.csw, tar) (goes_on t.width (a + 4 * j) _ (omega (arith, r.width)) refl (omega arith)) in
    let e : a + 4 * j + 4 ≡ a + 4 * suc j = omega arith in
    next ∙ e

-- what it means that the four bytes from a on are in a memory of n bytes
within : (base n a : ℕ) → (leb base a && leb (a + 4) (base + n)) ≡ true → (base ≤ a) × (a + 4 ≤ base + n)
within base n a h = go (leb base a) refl h
  where
    go : (b : Bool) → leb base a ≡ b → (b && leb (a + 4) (base + n)) ≡ true → (base ≤ a) × (a + 4 ≤ base + n)
    go true p q = (leb-true _ _ p, leb-true _ _ q)
    go false p q = absurd (false≢true q)

-- TAR stands at a word a
module _ {base a : ℕ} {t : Target} (r : Poised base t) (tar : t.tar ≡ a) (z : a % 4 ≡ 0) where
  word_address : word_address_of t ≡ a
  word_address = rw tar (omega arith)

  place : word_address_of t - t.base ≡ a - base
  place = rw (r.start, word_address) refl

  module _ (mem : List ℕ) where
    here : in_memory t mem (word_address_of t) ≡ true → (base ≤ a) × (a + 4 ≤ base + length mem)
    here i = rw (r.start, word_address) at (within t.base (length mem) (word_address_of t) i)

    -- a write puts the word, or sets sticky where it is outside memory
    pub drw_write : (w : ℕ) (P : Delivery → Type 0) → (t.sticky ≡ true → P (refused t mem))
        → (base ≤ a → a + 4 ≤ base + length mem → P (delivery 0 (advanced t) (put_word mem (a - base) w)))
        → P (delivery 0 (failed t) mem) → P (delivered t mem 0xD w)
    drw_write w P f g h = at_zero t mem 0xD w P refl r.select f (λ _. go (in_memory t mem (word_address_of t)) refl)
      where
        go : (x : Bool) → in_memory t mem (word_address_of t) ≡ x
            → P (delivery 0 (cond x (advanced t) (failed t)) (cond x (put_word mem (word_address_of t - t.base) w) mem))
        go true e = rw place (g (here e).0 (here e).1)
        go false e = h

    -- a posted read answers the read buffer, and leaves the word there, or sets sticky
    pub drw_read_lem : (P : Delivery → Type 0) → (t.sticky ≡ true → P (refused t mem))
        → ((w : ℕ) → Held base mem a w → P (delivery t.rdbuff (with_rdbuff (advanced t) w) mem))
        → P (delivery t.rdbuff (with_rdbuff (failed t) 0) mem) → P (delivered t mem 0xF 0)
    drw_read_lem P f g h = at_zero t mem 0xF 0 P refl r.select f (λ _. go (in_memory t mem (word_address_of t)) refl)
      where
        go : (x : Bool) → in_memory t mem (word_address_of t) ≡ x
            → P (replied (cond x (posted (advanced t) (le_word mem (word_address_of t - t.base))) (posted (failed t) 0)) mem)
        go true e = g (le_word mem (word_address_of t - t.base)) (record { low = (here e).0; high = (here e).1; word = ap (le_word mem) place })
        go false e = h

-- RDBUFF answers the read buffer
pub rdbuff_read : (t : Target) (mem : List ℕ) (P : Delivery → Type 0) → (t.sticky ≡ true → P (refused t mem)) → P (delivery t.rdbuff t mem)
    → P (delivered t mem 0xE 0)
rdbuff_read t mem P f g = by_row t mem 0xE 0 P f (λ _. g)

-- while sticky is set DRW and RDBUFF are refused
module _ (t : Target) (mem : List ℕ) (P : Delivery → Type 0) (s : t.sticky ≡ true) (f : P (refused t mem)) where
  clear : {X : Type 0} → t.sticky ≡ false → X
  clear h = absurd (true≢false (sym s ∙ h))

  pub stuck_write : (w : ℕ) → P (delivered t mem 0xD w)
  stuck_write w = by_row t mem 0xD w P (λ _. f) ((λ _ c. clear (c refl)), λ _ c. clear (c refl))

  pub stuck_read : P (delivered t mem 0xF 0)
  stuck_read = by_row t mem 0xF 0 P (λ _. f) ((λ _ c. clear (c refl)), λ _ c. clear (c refl))

  pub stuck_rdbuff : P (delivered t mem 0xE 0)
  stuck_rdbuff = by_row t mem 0xE 0 P (λ _. f) (λ c. clear (c refl))
