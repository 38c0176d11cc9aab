-- The words of a call under way, and what they stand for. Serves the proofs only: that they stand for the right tree is what
-- `start_in` and `step_in` show.
use Rattle.std.specs.Prelude.{ℕ, ◌-◌, ◌%◌, Bool, true, false, List, [], ◌∷◌, ◌≡◌, refl, length, get_or, set}
use Rattle.std.proofs.Common.{sym, ap, subst}
use Rattle.wire.specs.Wire.{Wire, Memory, done, ask, tell}
use Rattle.wire.specs.Laws.Told.{outcome_of}
use Rattle.wire_transfer.specs.Laws.Flight.{Mode, Transfer, transfer_of, flight}
use Rattle.wire_transfer.specs.Laws.Flight as D
use Rattle.wire.specs.declared.Call.{Call}
use Rattle.wire.specs.Laws.Rows.{spelled}
use Rattle.wire.specs.Outcomes.{Outcome}
use Rattle.wire_memap.specs.Laws.Doing.{stands}
use Rattle.wire_memap.specs.Laws.Flight.{started_tree}
use Rattle.call.specs.Laws.Asks.{then_of}
use Rattle.call_at.specs.declared.At.{At}
use Rattle.engine_calls.specs.Laws.After.{call_after}
use Rattle.engine_words.specs.Status.{Status, Running, Ended, status_as, running, status_of, status_tree}

-- by which under way and ended differ
abbrev pub which : Status → ℕ
which Running = 0
which (Ended o) = 1

abbrev pub at_of : List ℕ → At
at_of c = record { step = get_or c 0 0; a = get_or c 1 0; b = get_or c 2 0; c = get_or c 3 0; d = get_or c 4 0; e = get_or c 5 0 }

-- the same, over the room
abbrev pub on_room : List ℕ → List ℕ
on_room c = set c 6 (get_or c 6 0 - get_or c 6 0 % 2)

abbrev pub CallSized : List ℕ → Type 0
CallSized c = length c ≡ 9

-- what is in flight, over the words of its run and the caller's buffer
abbrev pub flight_tree : List ℕ → List ℕ → List ℕ → List ℕ → List ℕ → Wire
flight_tree t m c ws b = started_tree t m (then_of (call_after (at_of c))) (stands m ws b)

-- the tree that the words of a state stand for
abbrev pub words_tree : List ℕ → List ℕ → List ℕ → List ℕ → List ℕ → Wire
words_tree t m c ws b = status_tree (status_of c) (flight_tree t m c ws b) (stands m ws b)

pub runs_tree : (t m c ws b : List ℕ) → running c ≡ true → words_tree t m c ws b ≡ flight_tree t m c ws b
runs_tree t m c ws b z = ap (λ (x : Bool). status_tree (status_as x (outcome_of (get_or c 7 0) (get_or c 8 0))) (flight_tree t m c ws b) (stands m ws b)) z

pub ends_tree : (t m c ws b : List ℕ) → running c ≡ false → words_tree t m c ws b ≡ done (stands m ws b) (outcome_of (get_or c 7 0) (get_or c 8 0))
ends_tree t m c ws b z = ap (λ (x : Bool). status_tree (status_as x (outcome_of (get_or c 7 0) (get_or c 8 0))) (flight_tree t m c ws b) (stands m ws b)) z

-- a list of nine words is its nine words
pub by_words : (Q : List ℕ → Type 0) → ((a b c d e f g h i : ℕ) → Q (a ∷ b ∷ c ∷ d ∷ e ∷ f ∷ g ∷ h ∷ i ∷ [])) → (c : List ℕ) → CallSized c → Q c
by_words Q q c s = subst Q (spelled 9 c s) (q _ _ _ _ _ _ _ _ _)

-- a transport call is due
abbrev pub Waits : Wire → Type 0
Waits (done m o) = ⊥
Waits (ask m c f) = Unit {0}
Waits (tell m c w) = Unit {0}

-- the transport call c is due
abbrev pub DueIn : Wire → Call → Type 0
DueIn (done m o) d = ⊥
DueIn (ask m c f) d = c ≡ d
DueIn (tell m c w) d = c ≡ d

status_flies : (d : Status) (w : Wire) (m : Memory) → Waits (status_tree d w m) → status_tree d w m ≡ w
status_flies Running w m h = refl
status_flies (Ended o) w m h = absurd h

flight_due : (d : Mode) (m : Memory) (t : Transfer) (k : Outcome → Wire) → DueIn (flight d m t k) t.call
flight_due D.trying m t k = refl
flight_due D.aborting m t k = refl
flight_due D.raw m t k = refl

-- where a transport call is due, it is the one in flight
pub due_in : (t m c ws b : List ℕ) → Waits (words_tree t m c ws b) → DueIn (words_tree t m c ws b) (transfer_of t).call
due_in t m c ws b h =
    subst (λ (w : Wire). DueIn w (transfer_of t).call) (sym (status_flies (status_of c) (flight_tree t m c ws b) (stands m ws b) h))
    (flight_due (transfer_of t).mode (stands m ws b) (transfer_of t) _)
