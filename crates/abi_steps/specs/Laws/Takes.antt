-- What is taken at once is a step; and what is told of the words is the engine's answer. Serves the proofs only.
use Rattle.std.specs.Prelude.{ℕ, Bool, true, false, List, [], ◌≡◌, refl, length, get_or, replicate, Ok}
use Rattle.std.proofs.Common.{true≢false, sym, ap, subst, ◌∙◌}
use Rattle.wire.specs.Bytes.{padded}
use Rattle.wire.specs.Laws.Told.{outcome_of}
use Rattle.wire.specs.Outcomes.{Answer}
use Rattle.wire.specs.declared.Call.{Call}
use Rattle.wire_transfer.specs.Laws.Flight.{transfer_of}
use Rattle.wire_numbers.specs.Numbers.{numbers_of}
use Rattle.wire_numbers.specs.Results.{result_of}
use Rattle.wire_numbers.specs.declared.CallEnding.{CallEnding}
use Rattle.wire_memap.specs.Laws.Doing.{remembered_of}
use Rattle.engine_calls.specs.Calls.{lent, call_tree}
use Rattle.engine_calls.specs.declared.EngineCall.{EngineCall}
use Rattle.engine_words.specs.Status.{running}
use Rattle.engine_words.specs.Laws.Step.{StartedIn, SteppedIn, TriesIn}
use Rattle.engine.specs.Laws.Answer.{Answers, answers_call, answers_end, started, stepped}
use Rattle.engine.specs.Step as Engine
use Rattle.engine.specs.declared.State.{State}
use Rattle.engine.specs.declared.NextStep.{NextStep}
use Rattle.engine.specs.declared.NextStep.TheVariants as N
use Rattle.session_calls.specs.Session.{lending}
use Rattle.abi_words.specs.Words.{words_from, state_of, KeepsState}
use Rattle.abi_words.specs.Numbers.{step_numbers, end_numbers}
use Rattle.abi_steps.specs.Engine.{Told, Refuses, EngineSays, EngineStepped, under_way}

-- the words ws of a state, in the place of those of ws₀
abbrev pub StepsTo : Answer → List ℕ → List ℕ → List ℕ → List ℕ → List ℕ → List ℕ → List ℕ → List ℕ → Type 0
StepsTo a ws₀ room₀ words₀ b₀ ws room words b =
    SteppedIn a (words_from 7 3 ws₀) (words_from 12 10 ws₀) (words_from 9 22 ws₀) room₀ words₀ b₀
    (words_from 7 3 ws) (words_from 12 10 ws) (words_from 9 22 ws) room words b

-- True: the step with the answer a of a call under way, over any words and buffer; false: all is as it was.
pub record Takes (a : Answer) (r : Bool) (ws₀ room₀ ws room : List ℕ) : Type 0 where
  pub moved : r ≡ true → length ws₀ ≡ 64 → (words b : List ℕ) → StepsTo a ws₀ room₀ words b ws room words b
  pub ran : r ≡ true → under_way ws₀ ≡ true
  pub runs : r ≡ true → length ws₀ ≡ 64 → under_way ws ≡ true
  pub kept : r ≡ true → length ws₀ ≡ 64 → KeepsState (state_of ws) ws₀ ws
  pub stays : r ≡ false → (ws ≡ ws₀) × (room ≡ room₀)

-- the words of a state one by one
module _ {s : State} {ws₀ ws : List ℕ} (k : KeepsState s ws₀ ws) where
  transfer_kept : words_from 7 3 ws ≡ s.transfer
  transfer_kept = ap (λ (x : State). x.transfer) k.state

  op_kept : words_from 12 10 ws ≡ s.op
  op_kept = ap (λ (x : State). x.op) k.state

  call_kept : words_from 9 22 ws ≡ s.call
  call_kept = ap (λ (x : State). x.call) k.state

  -- what is claimed of them is claimed of the words
  pub as_kept : (Q : List ℕ → List ℕ → List ℕ → Type 0) → Q s.transfer s.op s.call → Q (words_from 7 3 ws) (words_from 12 10 ws) (words_from 9 22 ws)
  as_kept Q q =
      subst (λ (l : List ℕ). Q (words_from 7 3 ws) (words_from 12 10 ws) l) (sym call_kept)
      (subst (λ (l : List ℕ). Q (words_from 7 3 ws) l s.call) (sym op_kept)
      (subst (λ (l : List ℕ). Q l s.op s.call) (sym transfer_kept) q))

  pub kept_as : KeepsState (state_of ws) ws₀ ws
  kept_as = record { state = refl; others = k.others; rest = k.rest; sized = k.sized }

-- a value that was tried: taken
module _ (v : ℕ) (ws₀ room₀ : List ℕ) {r : Bool} {t₀ m₀ c₀ t m room : List ℕ} (ht : t₀ ≡ words_from 7 3 ws₀) (hm : m₀ ≡ words_from 12 10 ws₀)
    (hc : c₀ ≡ words_from 9 22 ws₀) (g : TriesIn (Ok v) r t₀ m₀ c₀ room₀ t m room) where
  tried : TriesIn (Ok v) r (words_from 7 3 ws₀) (words_from 12 10 ws₀) (words_from 9 22 ws₀) room₀ t m room
  tried =
      subst (λ (l : List ℕ). TriesIn (Ok v) r (words_from 7 3 ws₀) (words_from 12 10 ws₀) l room₀ t m room) hc
      (subst (λ (l : List ℕ). TriesIn (Ok v) r (words_from 7 3 ws₀) l c₀ room₀ t m room) hm
      (subst (λ (l : List ℕ). TriesIn (Ok v) r l m₀ c₀ room₀ t m room) ht g))

  pub takes_one : {ws : List ℕ} → r ≡ true
      → (length ws₀ ≡ 64 → KeepsState (record { transfer = t; op = m; call = words_from 9 22 ws₀ }) ws₀ ws) → Takes (Ok v) true ws₀ room₀ ws room
  takes_one e k = record {
    moved = λ _ h words b. as_kept (k h) (λ x y z. SteppedIn (Ok v) (words_from 7 3 ws₀) (words_from 12 10 ws₀) (words_from 9 22 ws₀) room₀ words b x y z room words b)
        (tried.moved e words b);
    ran = λ _. tried.goes e;
    runs = λ _ h. as_kept (k h) (λ _ _ z. running z ≡ true) (tried.goes e);
    kept = λ _ h. kept_as (k h);
    stays = λ e. absurd (true≢false e);
  }

  -- or not
  pub takes_none : r ≡ false → Takes (Ok v) false ws₀ room₀ ws₀ room
  takes_none e = record {
    moved = λ e. absurd (true≢false (sym e));
    ran = λ e. absurd (true≢false (sym e));
    runs = λ e. absurd (true≢false (sym e));
    kept = λ e. absurd (true≢false (sym e));
    stays = λ _. (refl, (tried.stays e).2);
  }

-- what is told of words is what their state answers
pub record Tells (ws next bytes : List ℕ) : Type 0 where
  pub said : NextStep CallEnding
  pub numbers : next ≡ step_numbers said
  pub answers : Answers (words_from 7 3 ws) (words_from 12 10 ws) (words_from 9 22 ws) (record { next = said; state = state_of ws; bytes = bytes })

pub tells_due : (ws next bytes : List ℕ) → running (words_from 9 22 ws) ≡ true → Told (transfer_of (words_from 7 3 ws)).call next bytes → Tells ws next bytes
tells_due ws next bytes z h = record {
  said = N.Make (numbers_of (transfer_of (words_from 7 3 ws)).call);
  numbers = h.numbers;
  answers = answers_call (words_from 7 3 ws) (words_from 12 10 ws) (words_from 9 22 ws) (transfer_of (words_from 7 3 ws)).call z refl refl h.hands;
}

pub tells_end : (ws bytes : List ℕ) (e : CallEnding) {next : List ℕ} → running (words_from 9 22 ws) ≡ false
    → e ≡ result_of (outcome_of (get_or ws 29 0) (get_or ws 30 0)) → next ≡ end_numbers e.number e.value 0 → bytes ≡ padded [] → Tells ws next bytes
tells_end ws bytes e z h n b = record {
  said = N.Finish e;
  numbers = n;
  answers = subst (λ (l : List ℕ). Answers (words_from 7 3 ws) (words_from 12 10 ws) (words_from 9 22 ws) (record { next = N.Finish e; state = state_of ws; bytes = l })) (sym b)
      (answers_end (words_from 7 3 ws) (words_from 12 10 ws) (words_from 9 22 ws) z h);
}

-- a step and a start in words, as they are told
pub steps_say : {a : Answer} {ws₀ room₀ words₀ b₀ ws room words b next bytes : List ℕ} → StepsTo a ws₀ room₀ words₀ b₀ ws room words b
    → KeepsState (state_of ws) ws₀ ws → Tells ws next bytes
    → EngineSays (λ x. Engine.Stepped (state_of ws₀) a x room₀ words₀ b₀ room words b) ws₀ ws next bytes
steps_say {ws₀ = ws₀} g k h = record {
  said = h.said;
  answers = stepped (state_of ws₀) _ (refl, refl) refl g h.answers;
  numbers = h.numbers;
  others = k.others;
  rest = k.rest;
  sized = k.sized;
}

pub starts_say : {x : EngineCall} {ws₀ room₀ words₀ b₀ t m c ws room words b next bytes : List ℕ}
    → StartedIn x (replicate 7 0) (words_from 12 10 ws₀) (replicate 9 0) room₀ words₀ b₀ t m c room words b
    → KeepsState (record { transfer = t; op = m; call = c }) ws₀ ws → Tells ws next bytes
    → EngineSays (λ y. Engine.Lent (lent x) (call_tree x (remembered_of (words_from 12 10 ws₀)) room₀ words₀ b₀) y room₀ words₀ room words b) ws₀ ws next bytes
starts_say {x} {ws₀} {room₀} {words₀} {b₀} {room = room} {words} {b} g k h = record {
  said = h.said;
  answers = started _ (record { is = refl; sized = refl })
      (as_kept k (λ t m c. StartedIn x (replicate 7 0) (words_from 12 10 ws₀) (replicate 9 0) room₀ words₀ b₀ t m c room words b) g) h.answers;
  numbers = h.numbers;
  others = k.others;
  rest = k.rest;
  sized = k.sized;
}

-- with a call under way, and with none
under_way_lem : {a : Answer} {ws₀ room₀ words₀ b₀ ws room words b next bytes : List ℕ} → under_way ws₀ ≡ true
    → EngineSays (λ x. Engine.Stepped (state_of ws₀) a x room₀ words₀ b₀ room words b) ws₀ ws next bytes
    → EngineStepped a ws₀ (lending room₀ words₀ b₀) ws next bytes (lending room words b)
under_way_lem e g = record { steps = λ _. g; none = λ h. absurd (true≢false (sym e ∙ h)) }

pub steps_none : {a : Answer} {ws room words b c next bytes : List ℕ} {r : Bool} → c ≡ words_from 9 22 ws → r ≡ running c → r ≡ false
    → Refuses 254 next bytes → EngineStepped a ws (lending room words b) ws next bytes (lending room words b)
steps_none hc hr e g = record {
  steps = λ h. absurd (true≢false (sym h ∙ ap running (sym hc) ∙ sym hr ∙ e));
  none = λ _. record { tells = g; words = refl; lent = refl };
}

-- a step that was taken at once
module _ {a : Answer} {r : Bool} {ws₀ room₀ ws₁ room₁ : List ℕ} (g : Takes a r ws₀ room₀ ws₁ room₁) where
  pub at_once : {words b next bytes : List ℕ} → r ≡ true → length ws₀ ≡ 64 → Told (transfer_of (words_from 7 3 ws₁)).call next bytes
      → EngineStepped a ws₀ (lending room₀ words b) ws₁ next bytes (lending room₁ words b)
  at_once {words} {b} {next} {bytes} e h t =
      under_way_lem (g.ran e) (steps_say (g.moved e h words b) (g.kept e h) (tells_due ws₁ next bytes (g.runs e h) t))

-- a step by the engine's own
pub steps_by : {a : Answer} {ws₀ room₀ words₀ b₀ t₀ m₀ c₀ t m c ws room words b next bytes : List ℕ} {r : Bool} → t₀ ≡ words_from 7 3 ws₀
    → m₀ ≡ words_from 12 10 ws₀ → c₀ ≡ words_from 9 22 ws₀ → r ≡ running c₀ → r ≡ true → SteppedIn a t₀ m₀ c₀ room₀ words₀ b₀ t m c room words b
    → KeepsState (record { transfer = t; op = m; call = c }) ws₀ ws → Tells ws next bytes
    → EngineStepped a ws₀ (lending room₀ words₀ b₀) ws next bytes (lending room words b)
steps_by {a} {ws₀} {room₀} {words₀} {b₀} {t₀} {m₀} {c₀} {t} {m} {c} {ws} {room} {words} {b} ht hm hc hr e g k h =
    under_way_lem (ap running (sym hc) ∙ sym hr ∙ e)
    (steps_say (as_kept k (λ x y z. SteppedIn a (words_from 7 3 ws₀) (words_from 12 10 ws₀) (words_from 9 22 ws₀) room₀ words₀ b₀ x y z room words b)
    (subst (λ (l : List ℕ). SteppedIn a (words_from 7 3 ws₀) (words_from 12 10 ws₀) l room₀ words₀ b₀ t m c room words b) hc
    (subst (λ (l : List ℕ). SteppedIn a (words_from 7 3 ws₀) l c₀ room₀ words₀ b₀ t m c room words b) hm
    (subst (λ (l : List ℕ). SteppedIn a l m₀ c₀ room₀ words₀ b₀ t m c room words b) ht g))))
    (kept_as k) h)

-- the transport call in flight, by its words
pub told_as : (ws : List ℕ) {t : List ℕ} {x : Call} {next bytes : List ℕ} → t ≡ words_from 7 3 ws → x ≡ (transfer_of t).call → Told x next bytes
    → Told (transfer_of (words_from 7 3 ws)).call next bytes
told_as ws {next = next} {bytes} e h k = subst (λ (z : Call). Told z next bytes) (h ∙ ap (λ (l : List ℕ). (transfer_of l).call) e) k
