-- Demand 3: what is claimed of every list of session calls over target and line (01: "The session").
use Rattle.std.specs.Prelude.{ℕ, ◌+◌, ◌-◌, ◌<◌, Bool, true, false, ◌&&◌, ◌||◌, cond, List, [], ◌∷◌, ◌≡◌, eqb, leb, ltb, length, get_or, Ok, Err, Option, Some, None}
use Rattle.wire.specs.Bytes.{le_bytes}
use Rattle.wire.specs.Wire.{ended, spent, succeeds}
use Rattle.wire.specs.declared.Call.{Call}
use Rattle.wire.specs.Outcomes.{Answer}
use Rattle.wire.specs.declared.Remembered.{Remembered}
use Rattle.wire_memap.specs.Ports.{CSW_DEFAULT}
use Rattle.target.specs.Memory.{byte_at}
use Rattle.target.specs.Deliver.{transfer_else}
use Rattle.target.specs.declared.Target.{Target}
use Rattle.session_phase.specs.Phase.{error_but, loss, is_spent, opens_after}
use Rattle.session_calls.specs.Calls.{is_connect}
use Rattle.session_calls.specs.Session.{Standing, ROOM, Lent, Result, refused, ran, succeeded, called}
use Rattle.session_calls.specs.declared.SessionCall.{SessionCall}
use Rattle.session_calls.specs.declared.SessionCall.TheVariants as S
use Rattle.agreement.specs.History.{Item, Moment, Made, last_of}

-- what is lent for a list is as the types of the code have it: the buffers hold bytes, and the rooms have their size
abbrev pub Bytes : List ℕ → Type 0
Bytes l = (i : ℕ) → get_or l i 0 < 256

pub record Typed (l : Lent) : Type 0 where
  pub bytes : Bytes l.buf
  pub room : length l.room ≡ ROOM

abbrev pub AllTyped : List Item → Type 0
AllTyped [] = Unit {0}
AllTyped (i ∷ items) = Typed i.lent × AllTyped items

-- Clause 1: open by the calls, their results and the answers alone.
abbrev pub is_transfer : Call → Bool
is_transfer c = transfer_else (λ (_ _ : ℕ). true) false c

-- an error that an ABORT follows: any but WAIT
abbrev pub aborts : Answer → Bool
aborts a = error_but (λ ack. eqb ack 2) a

-- whether a transport call was lost; the one right after a failed transfer is its ABORT, whose answer is ignored
unfoldable pub loss_among : Bool → List Call → List Answer → Bool
loss_among abort [] answers = false
loss_among abort (c ∷ calls) [] = false
loss_among true (c ∷ calls) (a ∷ answers) = loss_among false calls answers
loss_among false (c ∷ calls) (a ∷ answers) = loss a || loss_among (is_transfer c && aborts a) calls answers

-- a refused call leaves the session as it was; after one that ran it is open if that call closes nothing, and connects or found it open
abbrev pub open_next_of : Bool → SessionCall → List Call → List Answer → Result → Bool
open_next_of was c calls answers (refused x) = was
open_next_of was c calls answers (ran e) =
    opens_after (is_connect c) (loss_among false calls answers) (is_spent e) (succeeds e) && (is_connect c || was)

unfoldable pub open_after : Bool → List Made → Bool
open_after was [] = was
open_after was (m ∷ ms) = open_after (open_next_of was m.item.call m.came.calls m.answers m.came.ending) ms

-- Clause 2: what is remembered is the target's; SELECT 0xFFFFFFFF claims nothing, nor does a CSW that is not known.
pub record Agree (r : Remembered) (t : Target) : Type 0 where
  pub select : (r.select ≡ 0xFFFFFFFF → ⊥) → t.select ≡ r.select
  pub csw : r.csw ≡ true → t.csw ≡ CSW_DEFAULT

-- Clauses 3 and 4: the bytes of memory.
abbrev pub byte : Moment → ℕ → Option ℕ
byte x a = byte_at x.target x.mem a

-- whether an address is one of n from `addr` on
abbrev pub among : ℕ → ℕ → ℕ → Bool
among addr n a = leb addr a && ltb a (addr + n)

-- bytes given to the caller are the target's
abbrev pub Gives : Moment → ℕ → List ℕ → Type 0
Gives x addr bytes = (i : ℕ) → i < length bytes → byte x (addr + i) ≡ Some (get_or bytes i 0)

-- a read of n bytes changes nothing, and one that succeeded gave n bytes, the target's
pub record Reads (m : Made) (addr n : ℕ) (given : List ℕ) : Type 0 where
  pub same : (a : ℕ) → byte m.after a ≡ byte m.before a
  pub whole : succeeded m.came.ending ≡ true → length given ≡ n
  pub gives : succeeded m.came.ending ≡ true → Gives m.before addr given

-- the byte at a that `new` from `addr` on makes of an old one
abbrev pub renewed : ℕ → List ℕ → ℕ → Option ℕ → Option ℕ
renewed addr new a old = cond (among addr (length new) a) (Some (get_or new (a - addr) 0)) old

-- a byte that exists, in the range, and is the new one now
pub record New (m : Made) (addr : ℕ) (new : List ℕ) (a : ℕ) : Type 0 where
  pub range : among addr (length new) a ≡ true
  pub existed : byte m.before a ≡ None → ⊥
  pub now : byte m.after a ≡ Some (get_or new (a - addr) 0)

pub data OldOrNew (m : Made) (addr : ℕ) (new : List ℕ) (a : ℕ) : Type 0 where
  old : byte m.after a ≡ byte m.before a → OldOrNew m addr new a
  renew : New m addr new a → OldOrNew m addr new a

pub record Writes (m : Made) (addr : ℕ) (new : List ℕ) : Type 0 where
  pub whole : succeeded m.came.ending ≡ true → (a : ℕ) → byte m.after a ≡ renewed addr new a (byte m.before a)
  pub partly : (a : ℕ) → OldOrNew m addr new a

-- the bytes that call 9 gives: those of its value
abbrev pub value_bytes : Result → List ℕ
value_bytes (refused x) = []
value_bytes (ran (ended (Ok v))) = le_bytes v
value_bytes (ran (ended (Err e))) = []
value_bytes (ran spent) = []

abbrev pub MemoryKept : SessionCall → Made → Type 0
MemoryKept S.ConnectSwd m = Unit {0}
MemoryKept (S.ReadWord addr) m = Reads m addr 4 (value_bytes m.came.ending)
MemoryKept (S.WriteWord addr word) m = Writes m addr (le_bytes word)
MemoryKept (S.ReadMem addr) m = Reads m addr (length m.item.lent.buf) m.came.lent.buf
MemoryKept (S.WriteMem addr) m = Writes m addr m.item.lent.buf
MemoryKept (S.Core c) m = Unit {0}
MemoryKept (S.Fpb c) m = Unit {0}

pub data Each (P : Made → Type 0) : List Made → Type 0 where
  none : Each P []
  and : {m : Made} {ms : List Made} → P m → Each P ms → Each P (m ∷ ms)

-- the one claim about a list
pub record InStep (x : Moment) (ms : List Made) : Type 0 where
  pub opened : (last_of x ms).standing.is_open ≡ open_after false ms
  pub agree : (last_of x ms).standing.is_open ≡ true → Agree (last_of x ms).standing.remembered (last_of x ms).target
  pub memory : Each (λ m. MemoryKept m.item.call m) ms

-- Clause 1 alone, with arbitrary answers in place of a target: that is what rules out a session that opens after NoTarget, an
-- answer that no target with another DPIDR gives.
pub record Told : Type 0 where
  pub call : SessionCall
  pub lent : Lent
  pub answers : List Answer

unfoldable pub standing_after : Standing → List Told → Standing
standing_after s [] = s
standing_after s (x ∷ xs) = standing_after (called s x.call x.lent x.answers).after xs

unfoldable pub open_told_of : Bool → Standing → List Told → Bool
open_told_of was s [] = was
open_told_of was s (x ∷ xs) =
    let r = called s x.call x.lent x.answers in
    open_told_of (open_next_of was x.call r.calls x.answers r.ending) r.after xs
