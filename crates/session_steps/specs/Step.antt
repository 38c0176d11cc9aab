-- What a session answers to a start and to a step, and how it stands then: for every session, order, answer and everything lent.
use Rattle.std.specs.Prelude.{◌-◌, Bool, false, ◌&&◌, ◌||◌, Ok, Err}
use Rattle.wire.specs.Wire.{Wire, follow}
use Rattle.wire.specs.Outcomes.{Answer}
use Rattle.engine.specs.Laws.State.{state_tree}
use Rattle.engine.specs.Step.{awaited}
use Rattle.session_phase.specs.Phase.{loss}
use Rattle.session_phase.specs.declared.Phase.{Phase}
use Rattle.session_phase.specs.declared.Phase.TheVariants as P
use Rattle.session_rules.specs.declared.Refusal.TheVariants as R
use Rattle.session_rules.specs.Refusals.{Check}
use Rattle.session_calls.specs.Calls.{kind_of}
use Rattle.session_calls.specs.Session.{Lent, session_tree, check_of}
use Rattle.session_calls.specs.declared.Order.{Order}
use Rattle.session.specs.Answer.{standing, rested, Answers, Refused}
use Rattle.session.specs.declared.Session.{Session}
use Rattle.session.specs.declared.Reply.{Reply}

-- what a start answers: session, order and what is lent, then session, reply and what was lent afterwards
abbrev pub StartedBy : Check → Session → Order → Lent → Session → Reply → Lent → Type 0
StartedBy (Err x) s₀ o l₀ s r l = Refused x (rested s₀) l₀ s r l
StartedBy (Ok tt) s₀ o l₀ s r l =
    Answers (kind_of o.call) false o.budget o.budget (session_tree (standing s₀) o.call l₀) l₀.list s r l

abbrev pub Started : Session → Order → Lent → Session → Reply → Lent → Type 0
Started s₀ o l₀ s r l = StartedBy (check_of (standing s₀) o.call l₀) s₀ o l₀ s r l

-- whether an answer shows that the transport call due was lost; that of an ignored ABORT shows nothing
abbrev pub lost_by : Wire → Answer → Bool
lost_by w a = awaited w && loss a

-- what a step answers; where no call is under way it is refused as NoSession
abbrev pub SteppedIn : Phase → Session → Answer → Lent → Session → Reply → Lent → Type 0
SteppedIn P.Closed s₀ a l₀ s r l = Refused R.NoSession s₀ l₀ s r l
SteppedIn P.Open s₀ a l₀ s r l = Refused R.NoSession s₀ l₀ s r l
SteppedIn (P.Running kind lost) s₀ a l₀ s r l =
    Answers kind (lost || lost_by (state_tree s₀.state l₀.room l₀.buf) a) s₀.budget (s₀.left - 1)
    (follow (state_tree s₀.state l₀.room l₀.buf) a) l₀.list s r l

abbrev pub Stepped : Session → Answer → Lent → Session → Reply → Lent → Type 0
Stepped s₀ a l₀ s r l = SteppedIn s₀.phase s₀ a l₀ s r l
