-- A session's step by value, and one whose value is taken at once in the words. Serves the proofs only.
use Rattle.std.specs.Prelude.{ℕ, ◌-◌, ◌<◌, ◌%◌, Bool, true, false, ◌&&◌, ◌||◌, List, [], ◌∷◌, ◌≡◌, refl, eqb, length, drop, get_or, set, Ok, None, Some}
use Rattle.std.proofs.Common.{true≢false, sym, ap, subst, ◌∙◌, arith, ne_eqb, eqb-true}
use Rattle.wire.specs.Bytes.{handed, padded}
use Rattle.wire.specs.Wire.{follow}
use Rattle.wire.specs.Laws.Rows.{spelled}
use Rattle.wire.specs.Outcomes.{Answer}
use Rattle.wire.specs.declared.Call.{Call}
use Rattle.wire.specs.Outcomes.{Outcome}
use Rattle.wire_transfer.specs.Laws.Flight.{transfer_of}
use Rattle.wire_numbers.specs.Log.{answer_at}
use Rattle.wire_numbers.specs.Numbers.{numbers_of}
use Rattle.wire_memap.specs.Laws.Doing.{remembered_of}
use Rattle.wire.specs.declared.Remembered.{Remembered}
use Rattle.call.specs.Change.{fresh}
use Rattle.engine_words.specs.Status.{Ended, status_as, status_of, running}
use Rattle.engine_words.specs.Laws.State.{which}
use Rattle.engine.specs.Laws.Answer.{answers_call, stepped}
use Rattle.engine.specs.Laws.State.{state_tree}
use Rattle.engine.specs.Step as Engine
use Rattle.engine.specs.declared.NextStep.TheVariants as N
use Rattle.engine.specs.declared.State.{State}
use Rattle.engine.specs.declared.StepAnswer.{StepAnswer}
use Rattle.session_phase.specs.declared.Kind.{Kind}
use Rattle.session_phase.specs.declared.Phase.{Phase}
use Rattle.session_phase.specs.declared.Phase.TheVariants.{Closed, Running}
use Rattle.session_calls.specs.Session.{Lent, lending, closed}
use Rattle.session.specs.Answer.{standing}
use Rattle.session.specs.Laws.Ends.{settled_by, settles}
use Rattle.session.specs.declared.Session.{Session}
use Rattle.session.specs.declared.Reply.{Reply}
use Rattle.session.specs.declared.SessionAnswer.{SessionAnswer}
use Rattle.session_steps.specs.Step.{SteppedIn, Started, Stepped}
use Rattle.session_steps.specs.Laws.Starts.{Over, steps_room, answers_as}
use Rattle.session_calls.specs.declared.SessionCall.{SessionCall}
use Rattle.session_calls.specs.declared.Order.{Order}
use Rattle.engine_calls.specs.declared.EngineCall.{EngineCall}
use Rattle.abi_calls.specs.Given.{engine_call_of, session_call_of}
use Rattle.abi_words.specs.Words.{words_from, phase_at, state_of, session_of, KeepsState, KeepsSession}
use Rattle.abi_words.specs.Numbers.{next_numbers}
use Rattle.abi_steps.specs.Engine.{Told, Refuses, EngineStarted}
use Rattle.abi_steps.specs.Laws.Takes.{Takes}
use Rattle.bazkondur.specs.Linked.{SessionSays, Begun, Begins, GoesOn, EngineBegins, NewSession, NewEngine}

-- what was answered by value, from the session in ws₀, and kept
module _ {s₀ : Session} {ws₀ ws next bytes : List ℕ} (x : SessionAnswer) (e : s₀ ≡ session_of ws₀) (n : next ≡ next_numbers x.reply.next)
    (b : bytes ≡ x.reply.bytes) (k : KeepsSession x.session ws₀ ws) where
  says : (P : Session → Session → Reply → Type 0) → P s₀ x.session x.reply → SessionSays (P (session_of ws₀)) ws₀ ws next bytes
  says P g = record {
    reply = x.reply;
    answers = subst (λ (s : Session). P (session_of ws₀) s x.reply) (sym k.session) (subst (λ (s : Session). P s x.session x.reply) e g);
    numbers = n;
    hands = b;
    rest = k.rest;
    sized = k.sized;
  }

  pub begun_says : {o : Order} {l₀ l : Lent} → Started s₀ o l₀ x.session x.reply l → Begun o ws₀ l₀ ws next bytes l
  begun_says {o} {l₀} {l} g = record { says = says (λ s₁ s r. Started s₁ o l₀ s r l) g }

  pub goes_says : {a : Answer} {l₀ l : Lent} → Stepped s₀ a l₀ x.session x.reply l → GoesOn a ws₀ l₀ ws next bytes l
  goes_says {a} {l₀} {l} g = record { says = says (λ s₁ s r. Stepped s₁ a l₀ s r l) g }

-- a call is under way over the room, and its budget allows a transport call after the next answer
pub record May (ws : List ℕ) : Type 0 where
  pub kind : Kind
  pub lost : Bool
  pub phase : phase_at (get_or ws 0 0) ≡ Running kind lost
  pub left : 1 < get_or ws 2 0
  pub over : get_or ws 28 0 ≡ 0

-- a value shows no loss
no_loss : (x y : Bool) → x ≡ (x || (y && false))
no_loss true y = refl
no_loss false true = refl
no_loss false false = refl

-- what is left of the budget, stored
module _ (n : ℕ) (ws : List ℕ) (h : length ws ≡ 64) where
  abbrev Left : List ℕ → Type 0
  Left l = (state_of (set l 2 n) ≡ state_of l) × (words_from 3 0 (set l 2 n) ≡ get_or l 0 0 ∷ get_or l 1 0 ∷ n ∷ []) × (drop 31 (set l 2 n) ≡ drop 31 l)
      × (length (set l 2 n) ≡ 64)

  left_set : Left ws
  left_set = subst Left (spelled 64 ws h) (refl, refl, refl, refl)

  -- the transport call in flight stays
  pub told_still : {next bytes : List ℕ} → Told (transfer_of (words_from 7 3 (set ws 2 n))).call next bytes → Told (transfer_of (words_from 7 3 ws)).call next bytes
  told_still {next} {bytes} t = subst (λ (s : State). Told (transfer_of s.transfer).call next bytes) left_set.0 t

-- the session's answer where a transport call is due and the budget allows it
module _ (kind : Kind) (lost : Bool) (limit more : ℕ) (c : Call) (s : State) (some : eqb more 0 ≡ false) where
  abbrev due : StepAnswer
  due = record { next = N.Make (numbers_of c); state = s; bytes = padded (handed c) }

  abbrev answer : SessionAnswer
  answer = record {
    session = record { phase = Running kind lost; budget = limit; left = more; state = s };
    reply = record { next = N.Make (numbers_of c); bytes = padded (handed c) };
  }

  due_settled : settled_by kind lost limit more due ≡ answer
  due_settled = rw some

-- a value that was taken at once is a step of the session
module _ {v : ℕ} {ws₀ room₀ ws₁ room₁ : List ℕ} (h : length ws₀ ≡ 64) (q : May ws₀) (g : Takes (Ok v) true ws₀ room₀ ws₁ room₁) (list b : List ℕ) where
  abbrev call : Call
  call = (transfer_of (words_from 7 3 ws₁)).call

  abbrev limit : ℕ
  limit = get_or ws₀ 1 0

  abbrev more : ℕ
  more = get_or ws₀ 2 0 - 1

  some : eqb (get_or ws₀ 2 0 - 1) 0 ≡ false
  some = ne_eqb (get_or ws₀ 2 0 - 1) 0 (λ e. omega (arith, e, q.left))

  steps : Engine.Stepped (state_of ws₀) (Ok v) (due q.kind q.lost limit more call (state_of ws₁) some) room₀ list b room₁ list b
  steps = stepped (state_of ws₀) _ (refl, refl) refl (g.moved refl h list b)
      (answers_call (words_from 7 3 ws₁) (words_from 12 10 ws₁) (words_from 9 22 ws₁) call (g.runs refl h) refl refl refl)

  over : Over (follow (state_tree (state_of ws₀) room₀ b) (Ok v)) (due q.kind q.lost limit more call (state_of ws₁) some) room₁ list list b
  over = steps_room (state_of ws₀) ((λ _ _. refl), ap (λ (n : ℕ). eqb (n % 2) 1) q.over) steps

  goes : Stepped (session_of ws₀) (Ok v) (lending room₀ list b) (answer q.kind q.lost limit more call (state_of ws₁) some).session
      (answer q.kind q.lost limit more call (state_of ws₁) some).reply (lending room₁ list b)
  goes =
      subst (λ (p : Phase). SteppedIn p (session_of ws₀) (Ok v) (lending room₀ list b) (answer q.kind q.lost limit more call (state_of ws₁) some).session
      (answer q.kind q.lost limit more call (state_of ws₁) some).reply (lending room₁ list b)) (sym q.phase)
      (answers_as refl (no_loss q.lost (Engine.awaited (state_tree (state_of ws₀) room₀ b))) refl refl
      (settles q.kind q.lost limit more _ _ room₁ list b over.steps (sym (due_settled q.kind q.lost limit more call (state_of ws₁) some))))

  -- with what is left of the budget in its place
  stays : session_of (set ws₁ 2 (get_or ws₀ 2 0 - 1)) ≡ (answer q.kind q.lost limit more call (state_of ws₁) some).session
  stays =
      ap (λ (l : List ℕ). record { phase = phase_at (get_or l 0 0); budget = get_or l 1 0; left = get_or l 2 0; state = state_of (set ws₁ 2 more) }) k.1
      ∙ ap (λ (s : State). record { phase = phase_at (get_or ws₁ 0 0); budget = get_or ws₁ 1 0; left = more; state = s }) k.0
      ∙ ap (λ (l : List ℕ). record { phase = phase_at (get_or l 0 0); budget = get_or l 1 0; left = more; state = state_of ws₁ }) (g.kept refl h).others
      ∙ ap (λ (p : Phase). record { phase = p; budget = limit; left = more; state = state_of ws₁ }) q.phase
    where
      k : Left more ws₁ (g.kept refl h).sized ws₁
      k = left_set more ws₁ (g.kept refl h).sized

  pub goes_at_once : {left : ℕ} {next bytes : List ℕ} → left ≡ get_or ws₀ 2 0 - 1 → Told (transfer_of (words_from 7 3 (set ws₁ 2 left))).call next bytes
      → GoesOn (Ok v) ws₀ (lending room₀ list b) (set ws₁ 2 left) next bytes (lending room₁ list b)
  goes_at_once {next = next} {bytes} e t =
      subst (λ (n : ℕ). GoesOn (Ok v) ws₀ (lending room₀ list b) (set ws₁ 2 n) next bytes (lending room₁ list b)) (sym e) (record {
        says = record {
          reply = (answer q.kind q.lost limit more call (state_of ws₁) some).reply;
          answers = subst (λ (s : Session). Stepped (session_of ws₀) (Ok v) (lending room₀ list b) s
              (answer q.kind q.lost limit more call (state_of ws₁) some).reply (lending room₁ list b)) (sym stays) goes;
          numbers = told.numbers;
          hands = told.hands;
          rest = (left_set more ws₁ (g.kept refl h).sized).2 ∙ (g.kept refl h).rest;
          sized = (left_set more ws₁ (g.kept refl h).sized).3;
        };
      })
    where
      told : Told (transfer_of (words_from 7 3 ws₁)).call next bytes
      told = told_still more ws₁ (g.kept refl h).sized (subst (λ (n : ℕ). Told (transfer_of (words_from 7 3 (set ws₁ 2 n))).call next bytes) e t)

-- The answer a is taken by a call under way, and what is due then may be told; or all is as it was.
pub record TakesOne (a : Answer) (r : Bool) (ws₀ room₀ ws room : List ℕ) : Type 0 where
  pub taken : r ≡ true → length ws₀ ≡ 64 → (list b : List ℕ) {next bytes : List ℕ} → Told (transfer_of (words_from 7 3 ws)).call next bytes
      → GoesOn a ws₀ (lending room₀ list b) ws next bytes (lending room list b)
  pub stays : r ≡ false → (ws ≡ ws₀) × (room ≡ room₀)

pub takes_one : {v : ℕ} {r : Bool} {ws₀ room₀ ws₁ room₁ : List ℕ} {left : ℕ} → May ws₀ → left ≡ get_or ws₀ 2 0 - 1 → Takes (Ok v) r ws₀ room₀ ws₁ room₁ → r ≡ true
    → TakesOne (Ok v) true ws₀ room₀ (set ws₁ 2 left) room₁
takes_one {v} {r} {ws₀} {room₀} {ws₁} {room₁} q l g e = record {
  taken = λ _ h list b t. goes_at_once h q (subst (λ (x : Bool). Takes (Ok v) x ws₀ room₀ ws₁ room₁) e g) list b l t;
  stays = λ f. absurd (true≢false f);
}

pub takes_none : {v : ℕ} {r : Bool} {ws₀ room₀ ws₁ room₁ : List ℕ} → Takes (Ok v) r ws₀ room₀ ws₁ room₁ → r ≡ false
    → TakesOne (Ok v) false ws₀ room₀ ws₁ room₁
takes_none g e = record { taken = λ f. absurd (true≢false (sym f)); stays = λ _. g.stays e }

pub takes_nothing : (a : Answer) (ws room : List ℕ) → TakesOne a false ws room ws room
takes_nothing a ws room = record { taken = λ f. absurd (true≢false (sym f)); stays = λ _. (refl, refl) }

-- 01's code 0 is a value
pub takes_value : (code v : ℕ) {r : Bool} {ws₀ room₀ ws room : List ℕ} → code ≡ 0 → TakesOne (Ok v) r ws₀ room₀ ws room
    → TakesOne (answer_at code v) r ws₀ room₀ ws room
takes_value code v {r} {ws₀} {room₀} {ws} {room} e g = subst (λ (n : ℕ). TakesOne (answer_at n v) r ws₀ room₀ ws room) (sym e) g

-- the step of a function that tried it
module _ {a : Answer} {r : Bool} {ws₀ room₀ ws₁ room₁ : List ℕ} (g : TakesOne a r ws₀ room₀ ws₁ room₁) where
  pub one_taken : {list b next bytes : List ℕ} → r ≡ true → length ws₀ ≡ 64 → Told (transfer_of (words_from 7 3 ws₁)).call next bytes
      → GoesOn a ws₀ (lending room₀ list b) ws₁ next bytes (lending room₁ list b)
  one_taken {list} {b} e h t = g.taken e h list b t

  pub none_taken : {list₀ b₀ ws room list b next bytes : List ℕ} → r ≡ false → length ws₀ ≡ 64
      → (length ws₁ ≡ 64 → GoesOn a ws₁ (lending room₁ list₀ b₀) ws next bytes (lending room list b))
      → GoesOn a ws₀ (lending room₀ list₀ b₀) ws next bytes (lending room list b)
  none_taken {list₀} {b₀} {ws} {room} {list} {b} {next} {bytes} e h f = let q = g.stays e in
      subst (λ (l : List ℕ). GoesOn a l (lending room₀ list₀ b₀) ws next bytes (lending room list b)) q.0
      (subst (λ (l : List ℕ). GoesOn a ws₁ (lending l list₀ b₀) ws next bytes (lending room list b)) q.1
      (f (ap length q.0 ∙ h)))

-- where a call may go on
pub may : (ws : List ℕ) {p : Phase} {kind : Kind} {lost : Bool} → p ≡ phase_at (get_or ws 0 0) → p ≡ Running kind lost → 1 < get_or ws 2 0
    → eqb (get_or ws 28 0) 0 ≡ true → May ws
may ws {kind = kind} {lost} e h l z = record { kind = kind; lost = lost; phase = sym e ∙ h; left = l; over = eqb-true _ _ z }

-- a start by number, of a call and of none
pub begins_as : {call budget : ℕ} {args ws₀ : List ℕ} {l₀ l : Lent} {ws next bytes : List ℕ} {c : SessionCall} → session_call_of call args ≡ Some c
    → Begun (record { call = c; budget = budget }) ws₀ l₀ ws next bytes l → Begins call budget args ws₀ l₀ ws next bytes l
begins_as {budget = budget} {ws₀ = ws₀} {l₀} {l} {ws} {next} {bytes} {c} e g = record {
  asked = λ d f. subst (λ (x : SessionCall). Begun (record { call = x; budget = budget }) ws₀ l₀ ws next bytes l) (asked_same (sym e ∙ f)) g;
  bad = λ f. absurd (asked_bad (sym e ∙ f));
}
  where
    asked_same : {x y : SessionCall} → Some x ≡ Some y → x ≡ y
    asked_same h = cc

    asked_bad : {x : SessionCall} → Some x ≡ None → ⊥
    asked_bad h = let z : ◌≡◌ {A = ℕ} 0 1 = cc in omega arith

pub begins_not : {call budget : ℕ} {args ws : List ℕ} {l : Lent} {next bytes : List ℕ} → session_call_of call args ≡ None → Refuses 255 next bytes
    → Begins call budget args ws l ws next bytes l
begins_not e g = record {
  asked = λ c f. absurd (bad_asked (sym e ∙ f));
  bad = λ _. record { tells = g; words = refl; lent = refl };
}
  where
    bad_asked : {x : SessionCall} → None ≡ Some x → ⊥
    bad_asked h = let z : ◌≡◌ {A = ℕ} 0 1 = cc in omega arith

pub engine_begins_as : {call : ℕ} {args ws₀ : List ℕ} {l₀ l : Lent} {ws next bytes : List ℕ} {x : EngineCall} → engine_call_of call args ≡ Some x
    → EngineStarted x ws₀ l₀ ws next bytes l → EngineBegins call args ws₀ l₀ ws next bytes l
engine_begins_as {ws₀ = ws₀} {l₀} {l} {ws} {next} {bytes} {x} e g = record {
  asked = λ y f. subst (λ (z : EngineCall). EngineStarted z ws₀ l₀ ws next bytes l) (asked_same (sym e ∙ f)) g;
  bad = λ f. absurd (asked_bad (sym e ∙ f));
}
  where
    asked_same : {x y : EngineCall} → Some x ≡ Some y → x ≡ y
    asked_same h = cc

    asked_bad : {x : EngineCall} → Some x ≡ None → ⊥
    asked_bad h = let z : ◌≡◌ {A = ℕ} 0 1 = cc in omega arith

pub engine_begins_not : {call : ℕ} {args ws : List ℕ} {l : Lent} {next bytes : List ℕ} → engine_call_of call args ≡ None → Refuses 255 next bytes
    → EngineBegins call args ws l ws next bytes l
engine_begins_not e g = record {
  asked = λ x f. absurd (bad_asked (sym e ∙ f));
  bad = λ _. record { tells = g; words = refl; lent = refl };
}
  where
    bad_asked : {x : EngineCall} → None ≡ Some x → ⊥
    bad_asked h = let z : ◌≡◌ {A = ℕ} 0 1 = cc in omega arith

-- a new engine has no call under way
not_running : (x : Bool) (o p : Outcome) → status_as x o ≡ Ended p → x ≡ false
not_running true o p e = let n : ◌≡◌ {A = ℕ} 0 1 = ap which e in absurd (omega arith)
not_running false o p e = refl

pub new_engine : {s : State} {p : Outcome} {ws₀ ws : List ℕ} {r : Remembered} → r ≡ fresh → (remembered_of s.op ≡ r) × (status_of s.call ≡ Ended p) → KeepsState s ws₀ ws
    → NewEngine ws₀ ws
new_engine {s} {p} {ws₀} {ws} f e k = record {
  knows = ap (λ (x : State). remembered_of x.op) k.state ∙ e.0 ∙ f;
  idle = ap (λ (x : State). running x.call) k.state ∙ not_running (running s.call) _ p e.1;
  others = k.others;
  rest = k.rest;
  sized = k.sized;
}

pub new_session : {s : Session} {ws₀ ws : List ℕ} → (standing s ≡ closed) × (s.phase ≡ Closed) × (s.budget ≡ 0) × (s.left ≡ 0) → KeepsSession s ws₀ ws → NewSession ws₀ ws
new_session e k = record {
  stands = ap standing k.session ∙ e.0;
  phase = ap (λ (x : Session). x.phase) k.session ∙ e.1;
  rest = k.rest;
  sized = k.sized;
}
