-- What a caller's loop over session_start and session_step has seen of one call, whatever was answered (believed), and what that is to
-- be: the call over these answers as `called` defines it, and Spent after exactly its budget.
use Rattle.std.specs.Prelude.{ℕ, ◌≤◌, ◌<◌, List, [], ◌∷◌, ◌++◌, map, ◌≡◌, length}
use Rattle.wire.specs.Bytes.{handed, padded}
use Rattle.wire.specs.Wire.{spent}
use Rattle.wire.specs.declared.Call.{Call}
use Rattle.wire.specs.Outcomes.{Answer}
use Rattle.wire_numbers.specs.Numbers.{numbers_of}
use Rattle.wire_numbers.specs.declared.TransportCall.{TransportCall}
use Rattle.session_calls.specs.Session.{Lent, Result, ran, Called}
use Rattle.session_calls.specs.declared.Order.{Order}
use Rattle.session.specs.Answer.{standing, reported}
use Rattle.session_steps.specs.Step.{Started, Stepped}
use Rattle.session.specs.declared.Session.{Session}
use Rattle.session.specs.declared.SessionEnding.{SessionEnding}
use Rattle.engine.specs.declared.NextStep.TheVariants as N
use Rattle.session.specs.declared.Reply.{Reply}

-- The order o to the session s₀, with l₀ lent: the answers given so far, the replies that they answered, and session, reply and what is
-- lent by now. An answer that comes after the end, with whatever is lent then, is late.
pub data Trail (s₀ : Session) (o : Order) (l₀ : Lent) : List Answer → List Reply → Session → Reply → Lent → Type 0 where
  begun : {s : Session} {r : Reply} {l : Lent} → Started s₀ o l₀ s r l → Trail s₀ o l₀ [] [] s r l
  more : {answers : List Answer} {seen : List Reply} {s s' : Session} {r r' : Reply} {l l' : Lent} {x : TransportCall} (a : Answer)
      → Trail s₀ o l₀ answers seen s r l → r.next ≡ N.Make x → Stepped s a l s' r' l'
      → Trail s₀ o l₀ (answers ++ a ∷ []) (seen ++ r ∷ []) s' r' l'
  late : {answers : List Answer} {seen : List Reply} {s s' : Session} {r : Reply} {l : Lent} {e : SessionEnding} (a : Answer) (l₁ : Lent)
      (r' : Reply) (l₂ : Lent) → Trail s₀ o l₀ answers seen s r l → r.next ≡ N.Finish e → Stepped s a l₁ s' r' l₂
      → Trail s₀ o l₀ answers seen s' r l

-- the reply that asks for a transport call, and the one that reports a result after so many of them
abbrev pub asks : Call → Reply
asks d = record { next = N.Make (numbers_of d); bytes = padded (handed d) }

abbrev pub reports : Result → ℕ → Reply
reports e made = record { next = N.Finish (reported e made); bytes = padded [] }

-- The last reply, beside the call k over the answers so far, `count` of them, and the call over one answer more. It reports how k ended,
-- which is Spent after exactly the budget only; or it asks for the transport call that k was Spent at, which comes next whatever is
-- answered, and the budget allows it.
pub data Says (k : Called) (then : Answer → Called) (budget count : ℕ) (r : Reply) : Type 0 where
  over : count ≤ budget → (k.ending ≡ ran spent → count ≡ budget) → r ≡ reports k.ending count → Says k then budget count r
  due : (d : Call) → count < budget → k.ending ≡ ran spent → r ≡ asks d → ((a : Answer) → (then a).calls ≡ k.calls ++ d ∷ [])
      → Says k then budget count r

-- all that a loop has seen is what `called` says
pub record AsCalled (k : Called) (then : Answer → Called) (budget : ℕ) (answers : List Answer) (seen : List Reply) (s : Session) (r : Reply)
    (l : Lent) : Type 0 where
  pub stands : standing s ≡ k.after
  pub lent : l ≡ k.lent
  pub calls : seen ≡ map asks k.calls
  pub count : length answers ≡ length k.calls
  pub says : Says k then budget (length answers) r
