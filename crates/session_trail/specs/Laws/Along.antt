-- Where a tree is after some answers, and what it has made of them. Serves the proofs only.
use Rattle.std.specs.Prelude.{false, ◌||◌, List, [], ◌∷◌, ◌++◌, ◌≡◌, refl}
use Rattle.std.proofs.Common.{sym, ap}
use Rattle.wire.specs.Wire.{Wire, done, ask, tell, follow, play, made, Ending, ended, spent}
use Rattle.wire.specs.declared.Call.{Call}
use Rattle.wire.specs.Outcomes.{Answer}
use Rattle.engine.specs.Step.{memory_in}
use Rattle.session_phase.specs.Phase.{loss}
use Rattle.session_phase.specs.Laws.Phase.{or_more, or_none}
use Rattle.session_calls.specs.Session.{lost_in}
use Rattle.session_steps.specs.Step.{lost_by}

abbrev pub along : Wire → List Answer → Wire
along w [] = w
along w (a ∷ answers) = along (follow w a) answers

-- how a call stands whose answers end here, and the transport call that is due
abbrev pub end_in : Wire → Ending
end_in (done m o) = ended o
end_in (ask m c f) = spent
end_in (tell m c w) = spent

abbrev pub due_in_of : Wire → List Call
due_in_of (done m o) = []
due_in_of (ask m c f) = c ∷ []
due_in_of (tell m c w) = c ∷ []

pub along_more : (w : Wire) (answers : List Answer) (a : Answer) → along w (answers ++ a ∷ []) ≡ follow (along w answers) a
along_more w [] a = refl
along_more w (b ∷ answers) a = along_more (follow w b) answers a

pub play_along : (w : Wire) (answers : List Answer)
    → play w answers ≡ record { calls = (play w answers).calls; memory = memory_in (along w answers); ending = end_in (along w answers) }
unfolding play
play_along (done m o) [] = refl
play_along (done m o) (a ∷ answers) = play_along (done m o) answers
play_along (ask m c f) [] = refl
play_along (ask m c f) (a ∷ answers) = ap (made c) (play_along (f a) answers)
play_along (tell m c w) [] = refl
play_along (tell m c w) (a ∷ answers) = ap (made c) (play_along w answers)

pub no_calls : (w : Wire) → (play w []).calls ≡ []
unfolding play
no_calls (done m o) = refl
no_calls (ask m c f) = refl
no_calls (tell m c w) = refl

pub calls_more : (w : Wire) (answers : List Answer) (a : Answer) → (play w (answers ++ a ∷ [])).calls ≡ (play w answers).calls ++ due_in_of (along w answers)
unfolding play
calls_more (done m o) [] a = refl
calls_more (done m o) (b ∷ answers) a = calls_more (done m o) answers a
calls_more (ask m c f) [] a = ap (λ (l : List Call). c ∷ l) (no_calls (f a))
calls_more (ask m c f) (b ∷ answers) a = ap (λ (l : List Call). c ∷ l) (calls_more (f b) answers a)
calls_more (tell m c w) [] a = ap (λ (l : List Call). c ∷ l) (no_calls w)
calls_more (tell m c w) (b ∷ answers) a = ap (λ (l : List Call). c ∷ l) (calls_more w answers a)

pub none_lost : (w : Wire) → lost_in w [] ≡ false
unfolding lost_in
none_lost (done m o) = refl
none_lost (ask m c f) = refl
none_lost (tell m c w) = refl

pub lost_more : (w : Wire) (answers : List Answer) (a : Answer) → lost_in w (answers ++ a ∷ []) ≡ lost_in w answers || lost_by (along w answers) a
unfolding lost_in
lost_more (done m o) [] a = refl
lost_more (done m o) (b ∷ answers) a = lost_more (done m o) answers a
lost_more (ask m c f) [] a = rw (none_lost (f a)) (or_none (loss a))
lost_more (ask m c f) (b ∷ answers) a = rw (lost_more (f b) answers a) (sym (or_more (loss b) (lost_in (f b) answers) _))
lost_more (tell m c w) [] a = none_lost w
lost_more (tell m c w) (b ∷ answers) a = lost_more w answers a
