-- A chain of loops stands as its calls, one after the other, leave it: so clause 1 of demand 3 holds of it, whatever was answered.
use Rattle.std.specs.Prelude.{false, List, map, ◌≡◌, refl}
use Rattle.std.proofs.Common.{ap, ◌∙◌}
use Rattle.session_phase.specs.Phase.{is_open}
use Rattle.session_calls.specs.Session.{Standing, closed}
use Rattle.session.specs.Answer.{standing}
use Rattle.session.specs.declared.Session.{Session}
use Rattle.agreement.specs.Demand3.{standing_after, open_told_of}
use Rattle.agreement.proofs.Theorem.{open_as_told}
use Rattle.session_trail.specs.Chain.{Shown, Chain, none, next, told}
use Rattle.session_trail.proofs.Theorem.{trail}

pub chain_stands : {s s' : Session} {xs : List Shown} → Chain s xs s' → standing s' ≡ standing_after (standing s) (map told xs)
unfolding standing_after
chain_stands none = refl
chain_stands (next {xs = xs} t h) = chain_stands h ∙ ap (λ (z : Standing). standing_after z (map told xs)) (trail t).stands

-- clause 1 with arbitrary answers
pub chain_open : {s s' : Session} {xs : List Shown} → standing s ≡ closed → Chain s xs s' → is_open s'.phase ≡ open_told_of false closed (map told xs)
chain_open {xs = xs} e h =
    ap (λ (z : Standing). z.is_open) (chain_stands h ∙ ap (λ (z : Standing). standing_after z (map told xs)) e) ∙ open_as_told (map told xs)
