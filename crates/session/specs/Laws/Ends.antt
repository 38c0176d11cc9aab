-- How the session goes by the engine's answer in numbers, and that it goes as by the tree. Serves the proofs only.
use Rattle.std.specs.Prelude.{ℕ, ◌-◌, Bool, true, false, cond, List, [], ◌≡◌, refl, eqb}
use Rattle.std.proofs.Common.{sym, ap, subst, ◌∙◌}
use Rattle.wire.specs.Bytes.{handed, padded}
use Rattle.wire.specs.Wire.{Wire, done, ask, tell, ended, spent}
use Rattle.wire.specs.declared.Call.{Call}
use Rattle.wire_numbers.specs.Numbers.{numbers_of}
use Rattle.wire_numbers.specs.Results.{ending_of}
use Rattle.wire_numbers.specs.Laws.Result.{number_tells}
use Rattle.wire_numbers.specs.declared.CallEnding.{CallEnding}
use Rattle.wire_numbers.specs.declared.TransportCall.{TransportCall}
use Rattle.engine.specs.Step.{next_of, bytes_of, Steps}
use Rattle.engine.specs.declared.NextStep.{NextStep}
use Rattle.engine.specs.declared.StepAnswer.{StepAnswer}
use Rattle.session_phase.specs.Phase.{Now, over, due, now_of, phase_now, phase_due, phase_ended}
use Rattle.session_phase.specs.Laws.Phase.{spent_closed}
use Rattle.session_phase.specs.declared.Kind.{Kind}
use Rattle.session_phase.specs.declared.Phase.{Phase}
use Rattle.session_phase.specs.declared.Phase.TheVariants as P
use Rattle.session_calls.specs.Session.{lending}
use Rattle.session.specs.Answer.{numbered, next_by, bytes_by, Answers}
use Rattle.engine.specs.declared.NextStep.TheVariants as N
use Rattle.session.specs.declared.SessionEnding.{SessionEnding}
use Rattle.session.specs.declared.SessionAnswer.{SessionAnswer}

abbrev pub due_under : ℕ → ℕ → TransportCall → NextStep SessionEnding
due_under left made c = cond (eqb left 0) (N.Finish (numbered (ending_of spent) made)) (N.Make c)

abbrev pub next_under_of : ℕ → ℕ → NextStep CallEnding → NextStep SessionEnding
next_under_of left made (N.Make c) = due_under left made c
next_under_of left made (N.Finish e) = N.Finish (numbered e made)

-- number 0 is success
abbrev pub phase_under : Kind → Bool → ℕ → NextStep CallEnding → Phase
phase_under kind lost left (N.Make c) = phase_due kind lost left
phase_under kind lost left (N.Finish e) = phase_ended kind lost (eqb e.number 0)

abbrev pub bytes_under : ℕ → NextStep CallEnding → List ℕ → List ℕ
bytes_under left (N.Make c) bytes = cond (eqb left 0) (padded []) bytes
bytes_under left (N.Finish e) bytes = bytes

-- the session and its reply after the engine's answer x
abbrev pub settled_by : Kind → Bool → (limit more : ℕ) → StepAnswer → SessionAnswer
settled_by kind lost limit more x = record {
  session = record { phase = phase_under kind lost more x.next; budget = limit; left = more; state = x.state };
  reply = record { next = next_under_of more (limit - more) x.next; bytes = bytes_under more x.next x.bytes };
}

-- with a transport call due, by whether the budget is used up
module _ (c : Call) where
  abbrev by : Bool → Now
  by none = cond none (over spent) (due c)

  next_due : (none : Bool) (made : ℕ)
      → cond none (N.Finish (numbered (ending_of spent) made)) (N.Make (numbers_of c)) ≡ next_by made (by none)
  next_due true made = refl
  next_due false made = refl

  phase_due_lem : (none : Bool) (kind : Kind) (lost : Bool) → cond none P.Closed (P.Running kind lost) ≡ phase_now kind lost (by none)
  phase_due_lem true kind lost = spent_closed kind lost
  phase_due_lem false kind lost = refl

  bytes_due : (none : Bool) → cond none (padded []) (padded (handed c)) ≡ padded (bytes_by (by none))
  bytes_due true = refl
  bytes_due false = refl

-- by what comes next in a tree
module _ (left : ℕ) where
  next_under : (made : ℕ) (w : Wire) → next_under_of left made (next_of w) ≡ next_by made (now_of left w)
  next_under made (done m o) = refl
  next_under made (ask m c f) = next_due c (eqb left 0) made
  next_under made (tell m c w) = next_due c (eqb left 0) made

  phase_under_lem : (kind : Kind) (lost : Bool) (w : Wire) → phase_under kind lost left (next_of w) ≡ phase_now kind lost (now_of left w)
  phase_under_lem kind lost (done m o) = ap (phase_ended kind lost) (number_tells (ended o))
  phase_under_lem kind lost (ask m c f) = phase_due_lem c (eqb left 0) kind lost
  phase_under_lem kind lost (tell m c w) = phase_due_lem c (eqb left 0) kind lost

  bytes_under_lem : (w : Wire) → bytes_under left (next_of w) (padded (bytes_of w)) ≡ padded (bytes_by (now_of left w))
  bytes_under_lem (done m o) = refl
  bytes_under_lem (ask m c f) = bytes_due c (eqb left 0)
  bytes_under_lem (tell m c w) = bytes_due c (eqb left 0)

-- and by what the engine told of it
module _ (left : ℕ) (w : Wire) (n : NextStep CallEnding) (h : n ≡ next_of w) where
  next_at : (made : ℕ) → next_under_of left made n ≡ next_by made (now_of left w)
  next_at made = ap (next_under_of left made) h ∙ next_under left made w

  phase_at_lem : (kind : Kind) (lost : Bool) → phase_under kind lost left n ≡ phase_now kind lost (now_of left w)
  phase_at_lem kind lost = ap (phase_under kind lost left) h ∙ phase_under_lem left kind lost w

  bytes_at : (bytes : List ℕ) → bytes ≡ padded (bytes_of w) → bytes_under left n bytes ≡ padded (bytes_by (now_of left w))
  bytes_at bytes e =
      ap (λ (x : NextStep CallEnding). bytes_under left x bytes) h ∙ ap (bytes_under left (next_of w)) e ∙ bytes_under_lem left w

-- where the engine's answer reports a tree, so does the session's
pub settles : (kind : Kind) (lost : Bool) (limit more : ℕ) (w : Wire) (x : StepAnswer) (room list buf : List ℕ) → Steps w x room buf
    → {r : SessionAnswer} → r ≡ settled_by kind lost limit more x
    → Answers kind lost limit more w list r.session r.reply (lending room list buf)
settles kind lost limit more w x room list buf h e =
    subst (λ (r : SessionAnswer). Answers kind lost limit more w list r.session r.reply (lending room list buf)) (sym e) (record {
      next = next_at more w x.next h.next (limit - more);
      bytes = bytes_at more w x.next h.next x.bytes h.bytes;
      phase = phase_at_lem more w x.next h.next kind lost;
      budget = refl;
      left = refl;
      memory = h.memory;
      list = refl;
      tree = h.tree;
      counted = h.counted;
    })
