-- What follows each operation of a breakpoint call. Serves the proofs only: the table of phases, and that it is the calls as written.
use Rattle.std.specs.Prelude.{ℕ, zero, suc, ◌-◌, Bool, true, false, cond, ◌≡◌, refl, eqb, Ok, Err, Option, None}
use Rattle.std.proofs.Common.{ap}
use Rattle.wire.specs.Laws.Numbers.{less}
use Rattle.wire.specs.Outcomes.{Outcome}
use Rattle.wire_memap.specs.declared.Op.TheVariants as O
use Rattle.call.specs.Job.{Job, op, ◌>>=◌, ◌>>◌, fail, write_word}
use Rattle.call_at.specs.declared.At.{At}
use Rattle.call_places.specs.Laws.Fpb.{fpb_at_of}
use Rattle.call_fpb.specs.Fpb as fpb
use Rattle.call_fpb.specs.Breakpoint.{
  yes,
  no,
  num_code,
  revision,
  fpb_num_comps,
  fpb_comp_value,
  breakable,
  comparator,
  first_free,
  seek,
  enabled,
  find,
  clear,
}
use Rattle.call_places.specs.declared.FpbAt.{FpbAt}
use Rattle.call_places.specs.declared.FpbAt.TheVariants as A

-- what a comparator that was found leads to
abbrev pub found : Bool → ℕ → Job
found true = clear
found false = λ (_ : ℕ). yes

-- n comparators are looked at, if there are any
abbrev pub enabling : ℕ → ℕ → Job
enabling ctrl value = cond (eqb (num_code ctrl) 0) no (write_word fpb.FP_CTRL (enabled ctrl) >> seek value (num_code ctrl) (num_code ctrl) None)

abbrev pub counting : Bool → ℕ → Job
counting clears value = fpb_num_comps >>= (λ n. find (found clears) value n n)

-- what a comparator's word leads to, `left` counting it
abbrev pub after_seek : ℕ → ℕ → ℕ → Option ℕ → ℕ → Job
after_seek value n left free comp = cond (eqb comp value) yes (seek value n (left - 1) (first_free free (n - left) comp))

abbrev pub after_find : Bool → ℕ → ℕ → ℕ → ℕ → Job
after_find clears value n left comp = cond (eqb comp value) (found clears (n - left)) (find (found clears) value n (left - 1))

abbrev pub goes_on_of : FpbAt → ℕ → Job
goes_on_of (A.SetCtrl addr) v = breakable (fpb_comp_value addr (revision v)) (enabling v)
goes_on_of (A.Enable value n) v = seek value n n None
goes_on_of (A.Seek value n left free) v = after_seek value n left free v
goes_on_of (A.Revision clears addr) v = breakable (fpb_comp_value addr (revision v)) (counting clears)
goes_on_of (A.Count clears value) v = find (found clears) value (num_code v) (num_code v)
goes_on_of (A.Find clears value n left) v = after_find clears value n left v
goes_on_of A.Write v = yes

abbrev pub phase_after : FpbAt → Outcome → Job
phase_after p (Ok v) = goes_on_of p v
phase_after p (Err e) = fail e

abbrev pub fpb_after : At → Outcome → Job
fpb_after at o = phase_after (fpb_at_of at) o

-- one comparator, at a count that the code takes down by one
pub seek_more : (value n left : ℕ) (free : Option ℕ) → (left ≡ 0 → ⊥)
    → seek value n left free ≡ op (O.ReadWord (comparator (n - left))) (after_seek value n left free) fail
unfolding seek
seek_more value n zero free h = absurd (h refl)
seek_more value n (suc left) free h =
    ap (λ (j : ℕ). op (O.ReadWord (comparator (n - suc left))) (λ comp. cond (eqb comp value) yes (seek value n j (first_free free
    (n - suc left) comp))) fail) (less left)

pub find_more : (clears : Bool) (value n left : ℕ) → (left ≡ 0 → ⊥)
    → find (found clears) value n left ≡ op (O.ReadWord (comparator (n - left))) (after_find clears value n left) fail
unfolding find
find_more clears value n zero h = absurd (h refl)
find_more clears value n (suc left) h =
    ap (λ (j : ℕ). op (O.ReadWord (comparator (n - suc left))) (λ comp. cond (eqb comp value) (found clears (n - suc left)) (find
    (found clears) value n j)) fail)
    (less left)
