-- When a session is open (01: "The session"; believed). It closes after a call in which a transport call failed other than by WAIT or
-- FAULT, the ignored ABORT aside; after Spent; and after a connect that failed. Nothing else closes it.
use Rattle.std.specs.Prelude.{ℕ, Bool, true, false, not, ◌&&◌, ◌||◌, cond, eqb, Ok, Err}
use Rattle.wire.specs.Wire.{Wire, done, ask, tell, Ending, ended, spent, succeeds}
use Rattle.wire.specs.Outcomes.{Answer}
use Rattle.wire.specs.declared.DapError.TheVariants.{SwdError, NotSupported, Other}
use Rattle.wire.specs.declared.Call.{Call}
use Rattle.wire.specs.declared.Remembered.{Remembered}
use Rattle.call.specs.Change.{forgotten}
use Rattle.session_phase.specs.declared.Kind.{Kind}
use Rattle.session_phase.specs.declared.Kind.TheVariants as K
use Rattle.session_phase.specs.declared.Phase.{Phase}
use Rattle.session_phase.specs.declared.Phase.TheVariants as P

-- an error, but for a SwdError with an ack that is let pass
abbrev pub error_but : (ℕ → Bool) → Answer → Bool
error_but pass (Ok v) = false
error_but pass (Err (SwdError ack)) = not (pass ack)
error_but pass (Err NotSupported) = true
error_but pass (Err Other) = true

-- an answer that is neither Ok nor WAIT nor FAULT: nobody knows what became of the transport call
abbrev pub loss : Answer → Bool
loss a = error_but (λ ack. eqb ack 2 || eqb ack 4) a

-- each connect starts with SELECT and CSW unknown
abbrev pub remembered_for : Kind → Remembered → Remembered
remembered_for K.Connect r = forgotten r
remembered_for K.Plain r = r

abbrev pub is_spent : Ending → Bool
is_spent (ended o) = false
is_spent spent = true

-- whether the session is open after a call that was not refused: nothing was lost, the call was not broken off (Spent), and a connect
-- succeeded
abbrev pub opens_after : (connect lost broken ok : Bool) → Bool
opens_after connect lost broken ok = not (lost || broken || (connect && not ok))

abbrev pub connects : Kind → Bool
connects K.Connect = true
connects K.Plain = false

-- How a call stands with so much of its budget left: it is over, or a transport call is due. Spent comes where one is due and nothing
-- is left.
pub data Now : Type 0 where
  over : Ending → Now
  due : Call → Now

abbrev pub due_by : ℕ → Call → Now
due_by left c = cond (eqb left 0) (over spent) (due c)

abbrev pub now_of : ℕ → Wire → Now
now_of left (done m o) = over (ended o)
now_of left (ask m c f) = due_by left c
now_of left (tell m c w) = due_by left c

-- the phase that the code keeps, in which a call under way counts as closed
abbrev pub is_open : Phase → Bool
is_open p = elim p [ P.Open ↦ true | P.Closed ↦ false | P.Running kind lost ↦ false ]

abbrev pub phase_of : Bool → Phase
phase_of opened = cond opened P.Open P.Closed

abbrev pub phase_now : Kind → Bool → Now → Phase
phase_now kind lost (over e) = phase_of (opens_after (connects kind) lost (is_spent e) (succeeds e))
phase_now kind lost (due c) = P.Running kind lost

-- with a transport call due, and after a call that was brought to its end
abbrev pub phase_due : Kind → Bool → ℕ → Phase
phase_due kind lost left = cond (eqb left 0) P.Closed (P.Running kind lost)

abbrev pub phase_ended : (kind : Kind) (lost ok : Bool) → Phase
phase_ended kind lost ok = phase_of (opens_after (connects kind) lost false ok)

-- a call that its caller has left is over with the next start: it counts as Spent
abbrev pub phase_left : Phase → Phase
phase_left p = elim p [ P.Closed ↦ P.Closed | P.Open ↦ P.Open | P.Running kind lost ↦ P.Closed ]
