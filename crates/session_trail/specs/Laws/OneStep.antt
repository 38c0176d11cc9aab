-- A session that stands at a tree: what it shows, that a step takes it one answer further, and that one with no call under way refuses a
-- step. Serves the proofs only.
use Rattle.std.specs.Prelude.{ℕ, ◌-◌, ◌≤◌, ◌<◌, Bool, true, false, ◌||◌, cond, List, [], ◌∷◌, ◌++◌, map, ◌≡◌, refl, eqb}
use Rattle.std.proofs.Common.{sym, ap, subst, ◌∙◌, arith, eqb-true}
use Rattle.std.proofs.lemmas.Bool.{eqb-false}
use Rattle.wire.specs.Bytes.{padded}
use Rattle.wire.specs.Wire.{Wire, Memory, done, ask, tell, follow, Ending, spent, succeeds}
use Rattle.wire.specs.Outcomes.{Answer}
use Rattle.wire.specs.declared.Call.{Call}
use Rattle.wire.specs.declared.Remembered.{Remembered}
use Rattle.wire_numbers.specs.declared.TransportCall.{TransportCall}
use Rattle.engine.specs.Step.{memory_in}
use Rattle.session_phase.specs.Phase.{Now, over, due, due_by, now_of, is_spent, opens_after, is_open, phase_of, phase_now, phase_left, connects}
use Rattle.session_phase.specs.Laws.Phase.{open_phase, spent_closed}
use Rattle.session_phase.specs.declared.Kind.{Kind}
use Rattle.session_phase.specs.declared.Phase.{Phase}
use Rattle.session_phase.specs.declared.Phase.TheVariants as P
use Rattle.session_rules.specs.declared.Refusal.TheVariants as R
use Rattle.session_calls.specs.Session.{Standing, Lent, lending, Called, ran}
use Rattle.session.specs.Answer.{standing, next_by, bytes_by, Answers, Refused}
use Rattle.session_steps.specs.Step.{lost_by, SteppedIn, Stepped}
use Rattle.session.specs.declared.Session.{Session}
use Rattle.session.specs.declared.SessionEnding.{SessionEnding}
use Rattle.engine.specs.declared.NextStep.{NextStep}
use Rattle.engine.specs.declared.NextStep.TheVariants as N
use Rattle.session.specs.declared.Reply.{Reply}
use Rattle.session_trail.specs.Trail as T
use Rattle.session_trail.specs.Trail.{asks, reports, Says}
use Rattle.session_trail.specs.Laws.Along.{end_in, due_in_of}

pub reply_is : (r : Reply) (n : NextStep SessionEnding) (bytes : List ℕ) → r.next ≡ n → r.bytes ≡ bytes → r ≡ record { next = n; bytes = bytes }
reply_is r n bytes h k = rw (← h, ← k) refl

-- How a call stands with n more transport calls allowed: it has ended, or the budget has, or the transport call c is due.
pub data Stage (n : ℕ) (w : Wire) : Type 0 where
  at_end : now_of n w ≡ over (end_in w) → (end_in w ≡ spent → n ≡ 0) → Stage n w
  at_call : (c : Call) → now_of n w ≡ due c → 0 < n → end_in w ≡ spent → due_in_of w ≡ c ∷ [] → Stage n w

module _ (n : ℕ) where
  due_stage : (w : Wire) (c : Call) → now_of n w ≡ due_by n c → end_in w ≡ spent → due_in_of w ≡ c ∷ [] → Stage n w
  due_stage w c h e d = go (eqb n 0) refl
    where
      go : (b : Bool) → eqb n 0 ≡ b → Stage n w
      go true z = at_end (h ∙ ap (λ (b : Bool). cond b (over spent) (due c)) z ∙ ap over (sym e)) (λ _. eqb-true n 0 z)
      go false z =
          let some : n ≡ 0 → ⊥ = eqb-false n 0 z in
          at_call c (h ∙ ap (λ (b : Bool). cond b (over spent) (due c)) z) (omega arith) e d

  pub stage : (w : Wire) → Stage n w
  stage (done m o) = at_end refl (λ h. let z : ◌≡◌ {A = ℕ} 0 1 = cc in absurd (omega arith))
  stage (ask m c f) = due_stage (ask m c f) c refl refl refl
  stage (tell m c w) = due_stage (tell m c w) c refl refl refl

-- what the reply says of a call k that ends as the tree does
module _ (k : Called) (then : Answer → Called) (budget count : ℕ) (w : Wire) (r : Reply) (within : count ≤ budget)
    (ends : k.ending ≡ ran (end_in w)) (next : (a : Answer) → (then a).calls ≡ k.calls ++ due_in_of w)
    (says : r.next ≡ next_by count (now_of (budget - count) w)) (bytes : r.bytes ≡ padded (bytes_by (now_of (budget - count) w))) where
  ran_spent : (e : Ending) → ran e ≡ ran spent → e ≡ spent
  ran_spent e h = cc

  by_stage : Stage (budget - count) w → Says k then budget count r
  by_stage (at_end h z) =
      T.over within (λ s. let y = z (ran_spent (end_in w) (sym ends ∙ s)) in omega arith)
      (reply_is r _ _ (says ∙ ap (next_by count) h) (bytes ∙ ap (λ (x : Now). padded (bytes_by x)) h) ∙ ap (λ e. reports e count) (sym ends))
  by_stage (at_call c h l e d) =
      T.due c (omega arith) (ends ∙ ap ran e) (reply_is r _ _ (says ∙ ap (next_by count) h) (bytes ∙ ap (λ (x : Now). padded (bytes_by x)) h))
      (λ a. next a ∙ ap (λ (l : List Call). k.calls ++ l) d)

  pub says_in : Says k then budget count r
  says_in = by_stage (stage (budget - count) w)

-- a session in this phase has no call under way
abbrev pub Resting : Phase → Type 0
Resting P.Closed = Unit {0}
Resting P.Open = Unit {0}
Resting (P.Running kind lost) = ⊥

pub rests_refuse : (p : Phase) → Resting p → (s : Session) (a : Answer) (l : Lent) (s' : Session) (r' : Reply) (l' : Lent)
    → SteppedIn p s a l s' r' l' → Refused R.NoSession s l s' r' l'
rests_refuse P.Closed h s a l s' r' l' st = st
rests_refuse P.Open h s a l s' r' l' st = st
rests_refuse (P.Running kind lost) h s a l s' r' l' st = absurd h

phase_rests : (b : Bool) → Resting (phase_of b)
phase_rests true = tt
phase_rests false = tt

pub left_rests : (p : Phase) → Resting (phase_left p)
left_rests P.Closed = tt
left_rests P.Open = tt
left_rests (P.Running kind lost) = tt

pub left_open : (p : Phase) → is_open (phase_left p) ≡ is_open p
left_open P.Closed = refl
left_open P.Open = refl
left_open (P.Running kind lost) = refl

-- one answer more, and a late one
module _ (kind : Kind) (lost : Bool) (limit n : ℕ) (w : Wire) (given : List ℕ) (s : Session) (r : Reply) (l : Lent)
    (h : Answers kind lost limit n w given s r l) where
  pub ended_rests : (e : SessionEnding) → r.next ≡ N.Finish e → Resting s.phase
  ended_rests e f = subst Resting (sym h.phase) (go (now_of n w) (sym f ∙ h.next))
    where
      go : (x : Now) → N.Finish e ≡ next_by (limit - n) x → Resting (phase_now kind lost x)
      go (over y) g = phase_rests (opens_after (connects kind) lost (is_spent y) (succeeds y))
      go (due c) g = let z : ◌≡◌ {A = ℕ} 0 1 = cc in absurd (omega arith)

  -- a transport call is due
  pub record Due : Type 0 where
    pub runs : s.phase ≡ P.Running kind lost
    pub some : 0 < n
    pub seen : r ∷ [] ≡ map asks (due_in_of w)

  pub is_due : (x : TransportCall) → r.next ≡ N.Make x → Due
  is_due x f = go (stage n w)
    where
      go : Stage n w → Due
      go (at_end g z) =
          let y : ◌≡◌ {A = NextStep SessionEnding} (N.Make x) (N.Finish _) = sym f ∙ h.next ∙ ap (next_by (limit - n)) g in
          let z : ◌≡◌ {A = ℕ} 0 1 = cc in absurd (omega arith)
      go (at_call c g l e d) = record {
        runs = h.phase ∙ ap (phase_now kind lost) g;
        some = l;
        seen = ap (λ (q : Reply). q ∷ []) (reply_is r _ _ (h.next ∙ ap (next_by (limit - n)) g) (h.bytes ∙ ap (λ (y : Now). padded (bytes_by y)) g))
            ∙ ap (map asks) (sym d);
      }

  pub answers_more : (x : TransportCall) → r.next ≡ N.Make x → (a : Answer) (s' : Session) (r' : Reply) (l' : Lent) → Stepped s a l s' r' l'
      → Answers kind (lost || lost_by w a) limit (n - 1) (follow w a) given s' r' l'
  answers_more x f a s' r' l' st =
      rw (h.tree, ← h.budget, ← h.left, ← h.list) (subst (λ (p : Phase). SteppedIn p s a l s' r' l') (is_due x f).runs st)

-- the session as it stands there: open by the phase is open by the rule of `called`
open_by : (kind : Kind) (lost : Bool) (n : ℕ) (w : Wire) → Stage n w
    → is_open (phase_now kind lost (now_of n w)) ≡ opens_after (connects kind) lost (is_spent (end_in w)) (succeeds (end_in w))
open_by kind lost n w (at_end h z) = ap (λ (x : Now). is_open (phase_now kind lost x)) h ∙ open_phase _
open_by kind lost n w (at_call c h l e d) =
    ap (λ (x : Now). is_open (phase_now kind lost x)) h ∙ ap is_open (spent_closed kind lost) ∙ open_phase _
    ∙ ap (λ (x : Ending). opens_after (connects kind) lost (is_spent x) (succeeds x)) (sym e)

standing_is : {a b : Bool} {r q : Remembered} → a ≡ b → r ≡ q → ◌≡◌ {A = Standing} (record { is_open = a; remembered = r }) (record { is_open = b; remembered = q })
standing_is h i = rw (h, i)

pub stands_in : (kind : Kind) (lost : Bool) (limit n : ℕ) (w : Wire) (given : List ℕ) (s : Session) (r : Reply) (l : Lent)
    → Answers kind lost limit n w given s r l
    → standing s ≡ record { is_open = opens_after (connects kind) lost (is_spent (end_in w)) (succeeds (end_in w)); remembered = (memory_in w).remembered }
stands_in kind lost limit n w given s r l h =
    standing_is (ap is_open h.phase ∙ open_by kind lost n w (stage n w)) (ap (λ (m : Memory). m.remembered) h.memory)

lent_is : {room list buf room₂ list₂ buf₂ : List ℕ} → room ≡ room₂ → list ≡ list₂ → buf ≡ buf₂ → lending room list buf ≡ lending room₂ list₂ buf₂
lent_is h i j = rw (h, i, j)

pub lent_in : (kind : Kind) (lost : Bool) (limit n : ℕ) (w : Wire) (given : List ℕ) (s : Session) (r : Reply) (l : Lent)
    → Answers kind lost limit n w given s r l → l ≡ lending (memory_in w).words given (memory_in w).buf
lent_in kind lost limit n w given s r l h =
    lent_is (ap (λ (m : Memory). m.words) h.memory) h.list (ap (λ (m : Memory). m.buf) h.memory)
