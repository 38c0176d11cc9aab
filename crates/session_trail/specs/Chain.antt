-- A caller's calls, one after the other, each by a loop of its own (believed).
use Rattle.std.specs.Prelude.{List, [], ◌∷◌}
use Rattle.wire.specs.Outcomes.{Answer}
use Rattle.session_calls.specs.Session.{Lent}
use Rattle.session_calls.specs.declared.Order.{Order}
use Rattle.session.specs.declared.Session.{Session}
use Rattle.session.specs.declared.Reply.{Reply}
use Rattle.agreement.specs.Demand3.{Told}
use Rattle.session_trail.specs.Trail.{Trail}

-- one call as its caller sees it: what was asked for and lent, the answers given to the replies `seen`, the last reply, and what was lent
-- by then
pub record Shown : Type 0 where
  pub order : Order
  pub given : Lent
  pub answers : List Answer
  pub seen : List Reply
  pub last : Reply
  pub left : Lent

-- the loop of one call
abbrev pub Loop : Session → Shown → Session → Type 0
Loop s x s' = Trail s x.order x.given x.answers x.seen s' x.last x.left

-- each call starts on the session that the last one left; its loop may be left at any time
pub data Chain : Session → List Shown → Session → Type 0 where
  none : {s : Session} → Chain s [] s
  next : {s s' s'' : Session} {x : Shown} {xs : List Shown} → Loop s x s' → Chain s' xs s'' → Chain s (x ∷ xs) s''

-- the call and its answers, as demand 3 has them
abbrev pub told : Shown → Told
told x = record { call = x.order.call; lent = x.given; answers = x.answers }
