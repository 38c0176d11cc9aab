-- Demand 3 as one theorem: every well-formed target, whatever the width of its increment; every list of session calls with their
-- budgets and what is lent for them; every line.
use Rattle.std.specs.Prelude.{ℕ, Bool, false, List, [], ◌∷◌, ◌≡◌, refl, length, drop}
use Rattle.std.proofs.lemmas.Bool.{false≢true}
use Rattle.std.proofs.Common.{ap, ◌∙◌}
use Rattle.target.specs.WellFormed.{WellFormed}
use Rattle.target.specs.declared.Target.{Target}
use Rattle.target.specs.declared.Act.{Act}
use Rattle.session_calls.specs.Session.{closed}
use Rattle.agreement.specs.History.{Item, Moment, first, made, history, last_of}
use Rattle.agreement.specs.Demand3.{Told, standing_after, open_told_of, AllTyped, open_after, MemoryKept, Each, none, and, InStep}
use Rattle.agreement.specs.Laws.Kept.{Kept}
use Rattle.agreement.specs.Laws.Keep.{keeps}
use Rattle.agreement.proofs.Memory.{memory_kept}
use Rattle.agreement.proofs.Opens.{open_next, open_told}

-- clause 1 with arbitrary answers in place of a target
pub open_as_told : (xs : List Told) → (standing_after closed xs).is_open ≡ open_told_of false closed xs
open_as_told xs = open_told closed xs

each : (x : Moment) (items : List Item) (acts : List Act) → Kept x → AllTyped items → Each (λ m. MemoryKept m.item.call m) (history x items acts)
unfolding history
each x [] acts k b = none
each x (i ∷ items) acts k b =
    and (memory_kept x i acts k b.0)
    (each (made x i acts).after items (drop (length (made x i acts).answers) acts) (keeps x i acts k) b.1)

last_kept : (x : Moment) (items : List Item) (acts : List Act) → Kept x → Kept (last_of x (history x items acts))
unfolding history
last_kept x [] acts k = k
last_kept x (i ∷ items) acts k = last_kept (made x i acts).after items (drop (length (made x i acts).answers) acts) (keeps x i acts k)

last_open : (x : Moment) (items : List Item) (acts : List Act) → (last_of x (history x items acts)).standing.is_open ≡ open_after x.standing.is_open
    (history x items acts)
unfolding history open_after
last_open x [] acts = refl
last_open x (i ∷ items) acts =
    last_open (made x i acts).after items (drop (length (made x i acts).answers) acts)
    ∙ ap (λ (b : Bool). open_after b (history (made x i acts).after items (drop (length (made x i acts).answers) acts)))
    (open_next x.standing i.call i.lent (made x i acts).answers)

pub demand3 : (t : Target) (mem : List ℕ) → WellFormed t mem → (items : List Item) → AllTyped items → (acts : List Act)
    → InStep (first t mem) (history (first t mem) items acts)
demand3 t mem f items b acts = record {
  opened = last_open (first t mem) items acts;
  agree = λ o. (last_kept (first t mem) items acts fresh).agree o;
  memory = each (first t mem) items acts fresh b;
}
  where
    fresh : Kept (first t mem)
    fresh = record { formed = f; port = refl; agree = λ h. absurd (false≢true h) }
