-- How a session stands, and what it answers: a reply that reports the tree of a call under a budget, and a refusal.
use Rattle.std.specs.Prelude.{ℕ, ◌-◌, Bool, cond, List, [], ◌≡◌, eqb, get_or, Option, None, Some}
use Rattle.wire.specs.Bytes.{handed, padded}
use Rattle.wire.specs.Wire.{Wire, memory_of}
use Rattle.wire_numbers.specs.Results.{ending_of}
use Rattle.wire_numbers.specs.Numbers.{numbers_of}
use Rattle.wire_numbers.specs.declared.CallEnding.{CallEnding}
use Rattle.wire_memap.specs.Laws.Doing.{remembered_of}
use Rattle.call_core.specs.declared.CallFrame.{CallFrame}
use Rattle.engine_words.specs.Status.{status_of, CountedIn}
use Rattle.engine.specs.Laws.State.{state_tree}
use Rattle.engine.specs.Step.{memory_in}
use Rattle.session_phase.specs.Phase.{Now, over, due, now_of, is_open, phase_now, phase_left}
use Rattle.session_phase.specs.declared.Kind.{Kind}
use Rattle.session_rules.specs.Refusals.{refusal_number}
use Rattle.session_rules.specs.declared.Refusal.{Refusal}
use Rattle.session_calls.specs.Session.{Standing, Lent, Result, refused, ran}
use Rattle.session.specs.declared.Session.{Session}
use Rattle.session.specs.declared.SessionEnding.{SessionEnding}
use Rattle.engine.specs.declared.NextStep.{NextStep}
use Rattle.engine.specs.declared.NextStep.TheVariants as N
use Rattle.session.specs.declared.Reply.{Reply}

-- the session as it stands between calls; one whose call is still under way is closed
abbrev pub standing : Session → Standing
standing s = record { is_open = is_open s.phase; remembered = remembered_of s.state.op }

-- a result as 01's number and value, after so many transport calls
abbrev pub numbered : CallEnding → ℕ → SessionEnding
numbered e made = record { number = e.number; value = e.value; made = made }

abbrev pub reported : Result → ℕ → SessionEnding
reported (refused x) made = record { number = refusal_number x; value = 0; made = made }
reported (ran e) made = numbered (ending_of e) made

-- the reply of a call that stands so, after so many transport calls: the ending, or the one that is due and the bytes of it
abbrev pub next_by : ℕ → Now → NextStep SessionEnding
next_by made (over e) = N.Finish (reported (ran e) made)
next_by made (due c) = N.Make (numbers_of c)

abbrev pub bytes_by : Now → List ℕ
bytes_by (over e) = []
bytes_by (due c) = handed c

-- the frame of call 23, with result 0 alone: it stands in the room's first eight words
abbrev pub frame_at : List ℕ → CallFrame
frame_at room =
    let w : ℕ → ℕ = λ i. get_or room i 0 in
    record { r0 = w 0; r1 = w 1; r2 = w 2; r3 = w 3; sp = w 4; lr = w 5; pc = w 6; xpsr = w 7 }

abbrev pub frame_given : SessionEnding → List ℕ → Option CallFrame
frame_given e room = cond (eqb e.number 0) (Some (frame_at room)) None

-- The reply reports the tree w of a call that may make `limit` transport calls, `more` of them still; the session s stands at it, over
-- what is lent. The list is the one that was given.
pub record Answers (kind : Kind) (lost : Bool) (limit more : ℕ) (w : Wire) (given : List ℕ) (s : Session) (r : Reply) (l : Lent) : Type 0 where
  pub next : r.next ≡ next_by (limit - more) (now_of more w)
  pub bytes : r.bytes ≡ padded (bytes_by (now_of more w))
  pub phase : s.phase ≡ phase_now kind lost (now_of more w)
  pub budget : s.budget ≡ limit
  pub left : s.left ≡ more
  pub memory : memory_of (remembered_of s.state.op) l.room l.buf ≡ memory_in w
  pub list : l.list ≡ given
  pub tree : w ≡ state_tree s.state l.room l.buf
  pub counted : CountedIn (status_of s.state.call) s.state.transfer

-- the session stays as it is, so does what is lent, and no transport call is due
pub record Refused (x : Refusal) (s₀ : Session) (l₀ : Lent) (s : Session) (r : Reply) (l : Lent) : Type 0 where
  pub next : r.next ≡ N.Finish (reported (refused x) 0)
  pub bytes : r.bytes ≡ padded []
  pub session : s ≡ s₀
  pub lent : l ≡ l₀

-- a call that its caller has left is over with the next start, also with one that is refused; nothing else changes by it
abbrev pub rested : Session → Session
rested s = record { phase = phase_left s.phase; budget = s.budget; left = s.left; state = s.state }
