-- What a session refuses, with no transport call and nothing changed (01: "The session", and "Checks go 10, 9, 8"; 02, h; believed),
-- by the facts of a call. Which facts a call has is one table: `facts_of` in session_calls.
use Rattle.std.specs.Prelude.{ℕ, ◌+◌, ◌%◌, Bool, true, not, ◌||◌, cond, eqb, leb, Result, Ok, Err, ⊤}
use Rattle.session_phase.specs.Phase.{connects}
use Rattle.session_phase.specs.declared.Kind.{Kind}
use Rattle.session_rules.specs.declared.Align.{Align}
use Rattle.session_rules.specs.declared.Align.TheVariants as A
use Rattle.session_rules.specs.declared.Facts.{Facts}
use Rattle.session_rules.specs.declared.Refusal.{Refusal}
use Rattle.session_rules.specs.declared.Refusal.TheVariants as R

-- a call may start, or why it is refused
abbrev pub Check : Type 0
Check = Result ⊤ Refusal

-- a closed session admits a connect alone
abbrev pub admitted : Bool → Kind → Bool
admitted was kind = was || connects kind

abbrev pub aligned : Align → ℕ → Bool
aligned A.Any addr = true
aligned A.Half addr = eqb (addr % 2) 0
aligned A.Word addr = eqb (addr % 4) 0

-- a buffer that lies from the address on ends below 2^32
abbrev pub ranged : Bool → ℕ → ℕ → Bool
ranged spans addr bytes = cond spans (not (leb 0x100000000 (addr + bytes))) true

abbrev pub unless : Bool → Refusal → Check → Check
unless good x next = cond good next (Err x)

-- the checks in 01's order, with a buffer of so many bytes
abbrev pub refusal : Bool → Facts → ℕ → Check
refusal was f bytes =
    unless (admitted was f.kind) R.NoSession (unless (aligned f.align f.addr) R.Align
    (unless (ranged f.spans f.addr bytes) R.Range (Ok tt)))

-- 01's numbers of the refusals; their value is 0
abbrev pub refusal_number : Refusal → ℕ
refusal_number R.NoSession = 10
refusal_number R.Align = 9
refusal_number R.Range = 8
