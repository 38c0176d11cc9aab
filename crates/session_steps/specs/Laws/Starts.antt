-- How a call starts, and how it goes on over the room: what the code computes is what the tree of the call asks for. Serves the proofs only.
use Rattle.std.specs.Prelude.{ℕ, Bool, false, cond, List, ◌≡◌, refl, length}
use Rattle.std.proofs.Common.{sym, ap, subst, ◌∙◌}
use Rattle.wire.specs.Wire.{Wire, memory_of, follow}
use Rattle.wire.specs.Outcomes.{Answer}
use Rattle.wire.specs.declared.Remembered.{Remembered}
use Rattle.engine_calls.specs.Calls.{job_of, lent, call_tree}
use Rattle.engine_calls.specs.declared.EngineCall.{EngineCall}
use Rattle.engine_words.specs.Status.{own_of}
use Rattle.engine.specs.Laws.State.{state_tree}
use Rattle.engine.specs.Step as Engine
use Rattle.engine.specs.declared.State.{State}
use Rattle.engine.specs.declared.StepAnswer.{StepAnswer}
use Rattle.session_phase.specs.Phase.{remembered_for}
use Rattle.session_phase.specs.declared.Kind.{Kind}
use Rattle.session_rules.specs.Refusals.{refusal}
use Rattle.session_rules.specs.declared.Refusal.{Refusal}
use Rattle.session_rules.specs.Refusals.{Check}
use Rattle.session_rules.specs.declared.Facts.{Facts}
use Rattle.session_calls.specs.Calls.{engine_call, facts_of, kind_of}
use Rattle.session_calls.specs.Session.{Standing, Lent, lending, session_tree}
use Rattle.session_calls.specs.Laws.Plan.{alone_tree}
use Rattle.session_calls.specs.declared.SessionCall.{SessionCall}
use Rattle.session_calls.specs.declared.SessionCall.TheVariants as S
use Rattle.session_calls.specs.declared.Order.{Order}
use Rattle.session.specs.Answer.{standing, Answers, Refused}
use Rattle.session_steps.specs.Step.{Started, StartedBy}
use Rattle.session.specs.declared.Session.{Session}
use Rattle.session.specs.declared.Reply.{Reply}

-- no call of the session runs over the caller's list
over_room : (c : SessionCall) → lent (engine_call c) ≡ false
over_room S.ConnectSwd = refl
over_room (S.ReadWord addr) = refl
over_room (S.WriteWord addr word) = refl
over_room (S.ReadMem addr) = refl
over_room (S.WriteMem addr) = refl
over_room (S.Core c) = refl
over_room (S.Fpb c) = refl

-- so it is the engine's call, from what it remembers
tree_is : (s : Standing) (c : SessionCall) (room list buf : List ℕ)
    → call_tree (engine_call c) (remembered_for (kind_of c) s.remembered) room list buf ≡ session_tree s c (lending room list buf)
tree_is s c room list buf =
    rw (over_room c) (sym (alone_tree (job_of (engine_call c) (length list) (length buf)) 0
    (memory_of (remembered_for (kind_of c) s.remembered) room buf)))

-- what the engine's start reports, and that the list stays
pub record Over (w : Wire) (x : StepAnswer) (room list₀ list buf : List ℕ) : Type 0 where
  pub steps : Engine.Steps w x room buf
  pub kept : list ≡ list₀

over_lent : {own : Bool} {w : Wire} {x : StepAnswer} {room₀ list₀ room list buf : List ℕ} → own ≡ false
    → Engine.Lent own w x room₀ list₀ room list buf → Over w x room list₀ list buf
over_lent {own} {w} {x} {room₀} {list₀} {room} {list} {buf} e h = record {
  steps = subst (λ (o : Bool). Engine.Steps w x (cond o list room) buf) e h.steps;
  kept = subst (λ (o : Bool). cond o room list ≡ cond o room₀ list₀) e h.other;
}

pub starts : (s : Session) (c : SessionCall) (room₀ list₀ buf₀ : List ℕ) {kind : Kind} {e : EngineCall} {r : Remembered} {x : StepAnswer}
    {room list buf : List ℕ}
    → kind ≡ kind_of c → e ≡ engine_call c → r ≡ remembered_for kind (standing s).remembered
    → Engine.Lent (lent e) (call_tree e r room₀ list₀ buf₀) x room₀ list₀ room list buf
    → Over (session_tree (standing s) c (lending room₀ list₀ buf₀)) x room list₀ list buf
starts s c room₀ list₀ buf₀ {kind} {e} {r} {x} {room} {list} {buf} hk he hr h =
    subst (λ (w : Wire). Over w x room list₀ list buf)
    (ap (λ (y : EngineCall). call_tree y r room₀ list₀ buf₀) he
    ∙ ap (λ (y : Remembered). call_tree (engine_call c) y room₀ list₀ buf₀)
    (hr ∙ ap (λ (k : Kind). remembered_for k (standing s).remembered) hk)
    ∙ tree_is (standing s) c room₀ list₀ buf₀)
    (over_lent (ap lent he ∙ over_room c) h)

-- a step over the room; r is the state s as one that runs over it
pub steps_room : (s : State) {r : State} {a : Answer} {x : StepAnswer} {room₀ list₀ buf₀ room list buf : List ℕ}
    → ((ws b : List ℕ) → state_tree r ws b ≡ state_tree s ws b) × (own_of r.call ≡ false)
    → Engine.Stepped r a x room₀ list₀ buf₀ room list buf
    → Over (follow (state_tree s room₀ buf₀) a) x room list₀ list buf
steps_room s {r} {a} {x} {room₀} {list₀} {buf₀} {room} {list} {buf} h g =
    subst (λ (w : Wire). Over (follow w a) x room list₀ list buf) (h.0 room₀ buf₀)
    (subst (λ (o : Bool). Over (follow (state_tree r (cond o list₀ room₀) buf₀) a) x room list₀ list buf) h.1
    (over_lent h.1 g.lent))

-- with another kind, loss, budget or list that are the same
pub answers_as : {kind kind₂ : Kind} {lost lost₂ : Bool} {budget left left₂ : ℕ} {w : Wire} {list list₂ : List ℕ} {s : Session} {r : Reply} {l : Lent}
    → kind ≡ kind₂ → lost ≡ lost₂ → left ≡ left₂ → list ≡ list₂
    → Answers kind lost budget left w list s r l → Answers kind₂ lost₂ budget left₂ w list₂ s r l
answers_as {kind} {kind₂} {lost} {lost₂} {budget} {left} {left₂} {w} {list} {list₂} {s} {r} {l} hk hl hn hi h =
    subst (λ (k : Kind). Answers k lost₂ budget left₂ w list₂ s r l) hk
    (subst (λ (b : Bool). Answers kind b budget left₂ w list₂ s r l) hl
    (subst (λ (n : ℕ). Answers kind lost budget n w list₂ s r l) hn
    (subst (λ (i : List ℕ). Answers kind lost budget left w i s r l) hi h)))

pub refused_as : {x : Refusal} {s₁ s₂ : Session} {l₀ : Lent} {s : Session} {r : Reply} {l : Lent} → s₁ ≡ s₂ → Refused x s₁ l₀ s r l → Refused x s₂ l₀ s r l
refused_as {x} {l₀ = l₀} {s} {r} {l} e h = subst (λ (z : Session). Refused x z l₀ s r l) e h

-- the check that the code made is the one that the definition asks for
pub started_by : (s₀ : Session) (o : Order) (l₀ : Lent) (s : Session) (r : Reply) (l : Lent) {opened : Bool} {f : Facts} {k k₂ : Check}
    → opened ≡ (standing s₀).is_open → f ≡ facts_of o.call → k ≡ refusal opened f (length l₀.buf) → k ≡ k₂
    → StartedBy k₂ s₀ o l₀ s r l → Started s₀ o l₀ s r l
started_by s₀ o l₀ s r l {opened} {f} ho hf hk h x =
    subst (λ (y : Check). StartedBy y s₀ o l₀ s r l)
    (sym h ∙ hk ∙ ap (λ (b : Bool). refusal b f (length l₀.buf)) ho
    ∙ ap (λ (g : Facts). refusal (standing s₀).is_open g (length l₀.buf)) hf) x
