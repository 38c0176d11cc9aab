-- A caller's calls over target and line (believed): what answers is the line, by the numbers of the replies; and what is claimed of it,
-- that it is the history that demand 3 speaks of.
use Rattle.std.specs.Prelude.{ℕ, cond, List, [], ◌∷◌, map, ◌≡◌, eqb, length, drop}
use Rattle.wire.specs.Wire.{spent}
use Rattle.wire.specs.declared.Call.{Call}
use Rattle.wire.specs.declared.Call.TheVariants as C
use Rattle.target.specs.Line.{line}
use Rattle.target.specs.declared.Target.{Target}
use Rattle.target.specs.declared.Act.{Act}
use Rattle.target_line.specs.Talk.{Talk, silent, heard_first, act_now, acts_then}
use Rattle.session_calls.specs.Session.{ran}
use Rattle.session.specs.Answer.{standing, reported}
use Rattle.session.specs.declared.Session.{Session}
use Rattle.session.specs.declared.SessionEnding.{SessionEnding}
use Rattle.engine.specs.declared.NextStep.{NextStep}
use Rattle.engine.specs.declared.NextStep.TheVariants as N
use Rattle.session.specs.declared.Reply.{Reply}
use Rattle.agreement.specs.History.{Item, Moment, Made, last_of}
use Rattle.agreement.specs.Demand3.{InStep}
use Rattle.session_trail.specs.Trail.{asks}
use Rattle.session_trail.specs.Chain.{Shown, Loop}

-- the transport call that a reply hands to the line: a transfer by its numbers; of the others none reaches a register
abbrev pub call_at : NextStep SessionEnding → Call
call_at (N.Make x) = cond (eqb x.kind 0x54) (C.Transfer x.request x.word) C.Connect
call_at (N.Finish e) = C.Connect

-- what the line answers to the transport calls of some replies, and target and memory afterwards
unfoldable pub line_over : List Reply → List Act → Target → List ℕ → Talk
line_over [] acts t mem = silent t mem
line_over (r ∷ seen) acts t mem =
    let h = line t mem (call_at r.next) (act_now acts) in heard_first h.answer (line_over seen (acts_then acts) h.target h.mem)

-- from session, target, memory and what the line does to session, target and memory: each call by a loop whose answers are the line's
pub data Loops : Session → Target → List ℕ → List Act → List Shown → Session → Target → List ℕ → Type 0 where
  none : {s : Session} {t : Target} {mem : List ℕ} {acts : List Act} → Loops s t mem acts [] s t mem
  next : {s s' s'' : Session} {t t'' : Target} {mem mem'' : List ℕ} {acts : List Act} {x : Shown} {xs : List Shown}
      → Loop s x s' → x.answers ≡ (line_over x.seen acts t mem).answers
      → Loops s' (line_over x.seen acts t mem).target (line_over x.seen acts t mem).mem (drop (length x.answers) acts) xs s'' t'' mem''
      → Loops s t mem acts (x ∷ xs) s'' t'' mem''

-- a loop that was left with a transport call due counts as one whose budget ended there: 11, Spent
abbrev pub budget_at : NextStep SessionEnding → (budget count : ℕ) → ℕ
budget_at (N.Make x) budget count = count
budget_at (N.Finish e) budget count = budget

abbrev pub result_at : NextStep SessionEnding → ℕ → SessionEnding
result_at (N.Make x) count = reported (ran spent) count
result_at (N.Finish e) count = e

abbrev pub item_of : Shown → Item
item_of x = record {
  call = x.order.call;
  budget = budget_at x.last.next x.order.budget (length x.answers);
  lent = x.given;
}

abbrev pub items_of : List Shown → List Item
items_of xs = map item_of xs

abbrev pub moment : Session → Target → List ℕ → Moment
moment s t mem = record { standing = standing s; target = t; mem = mem }

-- a call of the history is the one that the caller saw
pub record Shows (m : Made) (x : Shown) : Type 0 where
  pub answers : m.answers ≡ x.answers
  pub calls : x.seen ≡ map asks m.came.calls
  pub ending : result_at x.last.next (length x.answers) ≡ reported m.came.ending (length m.came.calls)
  pub lent : x.left ≡ m.came.lent

pub data AllShown : List Made → List Shown → Type 0 where
  empty : AllShown [] []
  and : {m : Made} {ms : List Made} {x : Shown} {xs : List Shown} → Shows m x → AllShown ms xs → AllShown (m ∷ ms) (x ∷ xs)

-- the calls ms of a history from x₀ on are those that the caller saw, they leave session, target and memory so, and demand 3 holds of them
pub record LoopsInStep (x₀ : Moment) (ms : List Made) (xs : List Shown) (s : Session) (t : Target) (mem : List ℕ) : Type 0 where
  pub in_step : InStep x₀ ms
  pub last : last_of x₀ ms ≡ moment s t mem
  pub shown : AllShown ms xs
