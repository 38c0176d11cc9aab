-- A loop over the exported functions is a loop over the session's start and step, so what `trail` says holds of it.
use Rattle.std.specs.Prelude.{ℕ, List, [], ◌∷◌, ◌++◌, ◌≡◌, refl, get_or}
use Rattle.std.proofs.Common.{sym, ap, ◌∙◌, arith}
use Rattle.wire.specs.Outcomes.{Answer}
use Rattle.wire.specs.declared.Call.{Call}
use Rattle.wire.specs.declared.Call.TheVariants as C
use Rattle.wire_numbers.specs.Numbers.{numbers_of}
use Rattle.wire_numbers.specs.declared.TransportCall.{TransportCall}
use Rattle.session_calls.specs.Session.{Lent, Called, called}
use Rattle.session_calls.specs.declared.Order.{Order}
use Rattle.session.specs.Answer.{standing}
use Rattle.session.specs.declared.Reply.{Reply}
use Rattle.session.specs.declared.SessionEnding.{SessionEnding}
use Rattle.engine.specs.declared.NextStep.{NextStep}
use Rattle.engine.specs.declared.NextStep.TheVariants as N
use Rattle.session_trail.specs.Trail.{Trail, AsCalled, Says, over, due}
use Rattle.session_trail.specs.Trail as T
use Rattle.session_trail.proofs.Theorem.{trail}
use Rattle.abi_words.specs.Words.{session_of}
use Rattle.abi_words.specs.Numbers.{next_numbers}
use Rattle.abi_trail.specs.Linked.{Linked, begun, more}

-- the numbers tell the reply
pub record Tells (r : Reply) (next bytes : List ℕ) : Type 0 where
  pub numbers : next ≡ next_numbers r.next
  pub hands : bytes ≡ r.bytes

pub linked_tells : {ws₀ : List ℕ} {o : Order} {l₀ : Lent} {answers : List Answer} {seen : List Reply} {ws next bytes : List ℕ} {r : Reply} {l : Lent}
    → Linked ws₀ o l₀ answers seen ws next bytes r l → Tells r next bytes
linked_tells (begun g) = record { numbers = g.says.numbers; hands = g.says.hands }
linked_tells (more a t h g) = record { numbers = g.says.numbers; hands = g.says.hands }

-- a kind that is not 0 asks for a transport call
pub record Asks (n : NextStep SessionEnding) : Type 0 where
  pub due : TransportCall
  pub is : n ≡ N.Make due

asks : (n : NextStep SessionEnding) → (get_or (next_numbers n) 0 0 ≡ 0 → ⊥) → Asks n
asks (N.Make x) h = record { due = x; is = refl }
asks (N.Finish e) h = absurd (h refl)

pub linked_trail : {ws₀ : List ℕ} {o : Order} {l₀ : Lent} {answers : List Answer} {seen : List Reply} {ws next bytes : List ℕ} {r : Reply} {l : Lent}
    → Linked ws₀ o l₀ answers seen ws next bytes r l → Trail (session_of ws₀) o l₀ answers seen (session_of ws) r l
linked_trail (begun g) = T.begun g.says.answers
linked_trail (more {r = r} a t h g) = T.more a (linked_trail t) (asks r.next (λ e. h (ap (λ (x : List ℕ). get_or x 0 0) (linked_tells t).numbers ∙ e))).is g.says.answers

-- so all that it has seen is the call as it is defined
pub linked_called : {ws₀ : List ℕ} {o : Order} {l₀ : Lent} {answers : List Answer} {seen : List Reply} {ws next bytes : List ℕ} {r : Reply} {l : Lent}
    → Linked ws₀ o l₀ answers seen ws next bytes r l
    → AsCalled (called (standing (session_of ws₀)) o.call l₀ answers)
    (λ (a : Answer). called (standing (session_of ws₀)) o.call l₀ (answers ++ a ∷ [])) o.budget answers seen (session_of ws) r l
linked_called t = trail (linked_trail t)

-- every transport call has a letter, so a kind of 0 is the end
letter : (d : Call) → (numbers_of d).kind ≡ 0 → ⊥
letter (C.Transfer request word) e = omega (arith, e)
letter C.Connect e = omega (arith, e)
letter (C.Sequence p) e = omega (arith, e)
letter (C.Pins output select wait) e = omega (arith, e)
letter (C.WriteBits bits word) e = omega (arith, e)
letter C.OutputEnable e = omega (arith, e)

pub record Ends (n : NextStep SessionEnding) : Type 0 where
  pub ending : SessionEnding
  pub is : n ≡ N.Finish ending

ends : {k : Called} {then : Answer → Called} {budget count : ℕ} (r : Reply) → Says k then budget count r → get_or (next_numbers r.next) 0 0 ≡ 0 → Ends r.next
ends r (over few spent is) z = record { ending = _; is = ap (λ (x : Reply). x.next) is }
ends r (due d some spent is then) z = absurd (letter d (ap (λ (x : Reply). get_or (next_numbers x.next) 0 0) (sym is) ∙ z))

pub linked_ends : {ws₀ : List ℕ} {o : Order} {l₀ : Lent} {answers : List Answer} {seen : List Reply} {ws next bytes : List ℕ} {r : Reply} {l : Lent}
    → Linked ws₀ o l₀ answers seen ws next bytes r l → get_or next 0 0 ≡ 0 → Ends r.next
linked_ends {r = r} t z = ends r (linked_called t).says (ap (λ (x : List ℕ). get_or x 0 0) (sym (linked_tells t).numbers) ∙ z)
