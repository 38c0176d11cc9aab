-- One call of a session, whatever is answered (01: "The session"; believed). session_phase/specs/Phase.antt has when it is open.
use Rattle.std.specs.Prelude.{ℕ, Bool, false, ◌||◌, List, [], ◌∷◌, length, Ok, Err}
use Rattle.wire.specs.Wire.{Wire, memory_of, done, ask, tell, play, Played, Ending, succeeds}
use Rattle.wire.specs.declared.Call.{Call}
use Rattle.wire.specs.Outcomes.{Answer}
use Rattle.wire.specs.declared.Remembered.{Remembered}
use Rattle.call.specs.Change.{fresh}
use Rattle.engine_calls.specs.Calls.{job_of}
use Rattle.session_phase.specs.Phase.{loss, remembered_for, is_spent, opens_after}
use Rattle.session_rules.specs.Refusals.{refusal}
use Rattle.session_rules.specs.declared.Refusal.{Refusal}
use Rattle.session_rules.specs.Refusals.{Check}
use Rattle.session_calls.specs.Calls.{engine_call, facts_of, kind_of, is_connect}
use Rattle.session_calls.specs.Plan.{Plan, alone, plan_tree}
use Rattle.session_calls.specs.declared.SessionCall.{SessionCall}

-- between calls: whether it is open, and what it remembers
pub record Standing : Type 0 where
  pub is_open : Bool
  pub remembered : Remembered

abbrev pub closed : Standing
closed = record { is_open = false; remembered = fresh }

-- what a caller lends at each step: a room for the session to work in, his list of words, and his buffer of bytes
pub record Lent : Type 0 where
  pub room : List ℕ
  pub list : List ℕ
  pub buf : List ℕ

-- so many words has a room
abbrev pub ROOM : ℕ
ROOM = 192

abbrev pub lending : List ℕ → List ℕ → List ℕ → Lent
lending room list buf = record { room = room; list = list; buf = buf }

-- whether a transport call of a tree was lost, the ignored ABORT aside
unfoldable pub lost_in : Wire → List Answer → Bool
lost_in (done m o) answers = false
lost_in (ask m c f) [] = false
lost_in (ask m c f) (a ∷ rest) = loss a || lost_in (f a) rest
lost_in (tell m c w) [] = false
lost_in (tell m c w) (a ∷ rest) = lost_in w rest

-- the engine's calls, each a plan of one job
abbrev pub plan_of : SessionCall → Lent → Plan
plan_of c l = alone (job_of (engine_call c) (length l.list) (length l.buf))

-- the tree of a call that is not refused
abbrev pub session_tree : Standing → SessionCall → Lent → Wire
session_tree s c l = plan_tree (plan_of c l) 0 (memory_of (remembered_for (kind_of c) s.remembered) l.room l.buf)

-- how a call of a session ends: refused, or as its tree ended
pub data Result : Type 0 where
  refused : Refusal → Result
  ran : Ending → Result

abbrev pub succeeded : Result → Bool
succeeded (refused x) = false
succeeded (ran e) = succeeds e

-- A call and all that came of it: the transport calls made, the ending, what the caller lent, and the session afterwards. No call
-- changes the list.
pub record Called : Type 0 where
  pub calls : List Call
  pub ending : Result
  pub lent : Lent
  pub after : Standing

abbrev pub stands_after : SessionCall → Bool → Played → Standing
stands_after c lost p = record {
  is_open = opens_after (is_connect c) lost (is_spent p.ending) (succeeds p.ending);
  remembered = p.memory.remembered;
}

abbrev pub settled : SessionCall → Lent → Bool → Played → Called
settled c l lost p = record {
  calls = p.calls;
  ending = ran p.ending;
  lent = lending p.memory.words l.list p.memory.buf;
  after = stands_after c lost p;
}

abbrev pub unchanged : Standing → Refusal → Lent → Called
unchanged s x l = record { calls = []; ending = refused x; lent = l; after = s }

abbrev pub checked : Check → Standing → SessionCall → Lent → List Answer → Called
checked (Err x) s c l answers = unchanged s x l
checked (Ok tt) s c l answers = settled c l (lost_in (session_tree s c l) answers) (play (session_tree s c l) answers)

abbrev pub check_of : Standing → SessionCall → Lent → Check
check_of s c l = refusal s.is_open (facts_of c) (length l.buf)

-- A call over a list of answers, whose length is its budget. A call that its caller leaves is one whose answers end there.
abbrev pub called : Standing → SessionCall → Lent → List Answer → Called
called s c l answers = checked (check_of s c l) s c l answers
