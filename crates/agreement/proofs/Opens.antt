-- Clause 1: the session is open exactly when the calls, their results and the answers say so, whatever answers. Serves the proofs only.
use Rattle.std.specs.Prelude.{Bool, true, false, ◌&&◌, ◌||◌, List, [], ◌∷◌, ◌≡◌, refl, Ok, Err}
use Rattle.std.proofs.Common.{sym, ap, ◌∙◌}
use Rattle.wire.specs.Outcomes.{Answer}
use Rattle.session_rules.specs.Refusals.{Check}
use Rattle.session_calls.specs.Calls.{is_connect}
use Rattle.session_calls.specs.Session.{Standing, Lent, plan_of, session_tree, called, checked, check_of}
use Rattle.session_calls.specs.declared.SessionCall.{SessionCall}
use Rattle.agreement.specs.Demand3.{loss_among, open_next_of, Told, standing_after, open_told_of}
use Rattle.agreement.specs.Laws.Kept.{admitted_open}
use Rattle.agreement.specs.Laws.Aborts.{Shaped, lost_among}
use Rattle.agreement.specs.Laws.Plans.{plan_shaped}
use Rattle.agreement.specs.Laws.Calls.{plan_sound}

shaped : (s : Standing) (c : SessionCall) (l : Lent) → Shaped false (session_tree s c l)
shaped s c l = plan_shaped (plan_of c l) (plan_sound c l) 0 _

-- a call that ran connects, or found the session open
same_rule : (connect was opens : Bool) → (connect ≡ false → was ≡ true) → opens ≡ opens && (connect || was)
same_rule connect was false h = refl
same_rule true was true h = refl
same_rule false was true h = sym (h refl)

pub open_next : (s : Standing) (c : SessionCall) (l : Lent) (answers : List Answer)
    → (called s c l answers).after.is_open
    ≡ open_next_of s.is_open c (called s c l answers).calls answers (called s c l answers).ending
unfolding loss_among
open_next s c l answers = go (check_of s c l) refl
  where
    go : (k : Check) → check_of s c l ≡ k
        → (checked k s c l answers).after.is_open ≡ open_next_of s.is_open c (checked k s c l answers).calls answers (checked k s c l answers).ending
    go (Ok tt) h =
        rw (lost_among (session_tree s c l) false answers (shaped s c l))
        (same_rule (is_connect c) s.is_open _ (admitted_open s c l h))
    go (Err x) h = refl

pub open_told : (s : Standing) (xs : List Told) → (standing_after s xs).is_open ≡ open_told_of s.is_open s xs
unfolding standing_after open_told_of
open_told s [] = refl
open_told s (x ∷ xs) =
    open_told (called s x.call x.lent x.answers).after xs
    ∙ ap (λ (b : Bool). open_told_of b (called s x.call x.lent x.answers).after xs) (open_next s x.call x.lent x.answers)
