-- Every loop of a caller over session_start and session_step is `called` over the answers that it gave, wherever it is left; and a late
-- answer is refused and changes nothing.
-- The idea: the session stands at the tree of the call, followed along the answers so far (`Holds`); a start begins there and a step
-- goes one answer further, and what `called` says is read off that tree.
use Rattle.std.specs.Prelude.{ℕ, ◌+◌, ◌-◌, ◌≤◌, ◌<◌, Bool, List, [], ◌∷◌, ◌++◌, map, ◌≡◌, refl, length, Ok, Err}
use Rattle.std.proofs.lemmas.List.{map-append, length-map}
use Rattle.std.proofs.Common.{sym, ap, subst, ◌∙◌, arith, length-append}
use Rattle.std.proofs.Math.Nat.{sub-zero}
use Rattle.wire.specs.Wire.{Wire, play, Played}
use Rattle.wire.specs.Outcomes.{Answer}
use Rattle.wire_numbers.specs.declared.TransportCall.{TransportCall}
use Rattle.session_phase.specs.declared.Kind.{Kind}
use Rattle.session_rules.specs.declared.Refusal.{Refusal}
use Rattle.session_rules.specs.declared.Refusal.TheVariants as R
use Rattle.session_rules.specs.Refusals.{Check}
use Rattle.session_calls.specs.Calls.{kind_of}
use Rattle.session_calls.specs.Session.{Lent, lost_in, session_tree, ran, settled, checked, check_of, called}
use Rattle.session_calls.specs.declared.Order.{Order}
use Rattle.session_phase.specs.Phase.{now_of}
use Rattle.session.specs.Answer.{standing, rested, next_by, Answers, Refused}
use Rattle.session_steps.specs.Step.{StartedBy, Stepped}
use Rattle.session.specs.declared.Session.{Session}
use Rattle.session.specs.declared.SessionEnding.{SessionEnding}
use Rattle.engine.specs.declared.NextStep.TheVariants as N
use Rattle.session.specs.declared.Reply.{Reply}
use Rattle.session_trail.specs.Trail.{Trail, begun, more, late, asks, over, AsCalled}
use Rattle.session_trail.specs.Laws.Along.{along, due_in_of, along_more, play_along, no_calls, calls_more, none_lost, lost_more}
use Rattle.session_trail.specs.Laws.OneStep.{Resting, reply_is, says_in, rests_refuse, left_rests, left_open, ended_rests, is_due, answers_more, stands_in, lent_in}

one_more : (xs : List Answer) (a : Answer) → length (xs ++ a ∷ []) ≡ length xs + 1
one_more xs a = simp length-append

module _ (s₀ : Session) (o : Order) (l₀ : Lent) where
  abbrev kind : Kind
  kind = kind_of o.call

  -- the tree of the call
  abbrev tree : Wire
  tree = session_tree (standing s₀) o.call l₀

  -- a call that was not refused has come this far
  record Walks (answers : List Answer) (seen : List Reply) (s : Session) (r : Reply) (l : Lent) : Type 0 where
    here : Answers kind (lost_in tree answers) o.budget (o.budget - length answers) (along tree answers) l₀.list s r l
    within : length answers ≤ o.budget
    calls : seen ≡ map asks (play tree answers).calls
    count : length seen ≡ length answers

  -- a call that was refused makes no step
  record Halts (x : Refusal) (answers : List Answer) (seen : List Reply) (s : Session) (r : Reply) (l : Lent) : Type 0 where
    none : answers ≡ []
    calls : seen ≡ []
    same : Refused x (rested s₀) l₀ s r l

  abbrev Holds : Check → List Answer → List Reply → Session → Reply → Lent → Type 0
  Holds (Err x) answers seen s r l = Halts x answers seen s r l
  Holds (Ok tt) answers seen s r l = Walks answers seen s r l

  begins : (k : Check) (s : Session) (r : Reply) (l : Lent) → StartedBy k s₀ o l₀ s r l → Holds k [] [] s r l
  begins (Err x) s r l h = record { none = refl; calls = refl; same = h }
  begins (Ok tt) s r l h = record {
    here = rw (none_lost tree, sub-zero o.budget) h;
    within = omega arith;
    calls = ap (map asks) (sym (no_calls tree));
    count = refl;
  }

  goes : (k : Check) (answers : List Answer) (seen : List Reply) (s : Session) (r : Reply) (l : Lent) (x : TransportCall) (a : Answer)
      (s' : Session) (r' : Reply) (l' : Lent)
      → Holds k answers seen s r l → r.next ≡ N.Make x → Stepped s a l s' r' l' → Holds k (answers ++ a ∷ []) (seen ++ r ∷ []) s' r' l'
  goes (Err y) answers seen s r l x a s' r' l' h n st =
      let z : N.Make x ≡ N.Finish _ = sym n ∙ h.same.next in
      let y : ◌≡◌ {A = ℕ} 0 1 = cc in absurd (omega arith)
  goes (Ok tt) answers seen s r l x a s' r' l' h n st =
      let d = is_due kind (lost_in tree answers) o.budget (o.budget - length answers) (along tree answers) l₀.list s r l h.here x n in
      let some : 0 < o.budget - length answers = d.some in
      let less : o.budget - length answers - 1 ≡ o.budget - (length answers + 1) = omega arith in
      record {
        here = rw (lost_more tree answers a, along_more tree answers a, one_more answers a, ← less)
            (answers_more kind (lost_in tree answers) o.budget (o.budget - length answers) (along tree answers) l₀.list s r l h.here x n a s' r' l' st);
        within = rw (one_more answers a) (omega arith);
        calls = rw (h.calls, d.seen, calls_more tree answers a)
            (sym (map-append asks (play tree answers).calls (due_in_of (along tree answers))));
        count = simp length-append (ap (λ (n : ℕ). n + 1) h.count);
      }

  rests : (k : Check) (answers : List Answer) (seen : List Reply) (s : Session) (r : Reply) (l : Lent) (e : SessionEnding)
      → Holds k answers seen s r l → r.next ≡ N.Finish e → Resting s.phase
  rests (Err x) answers seen s r l e h n = subst (λ (z : Session). Resting z.phase) (sym h.same.session) (left_rests s₀.phase)
  rests (Ok tt) answers seen s r l e h n =
      ended_rests kind (lost_in tree answers) o.budget (o.budget - length answers) (along tree answers) l₀.list s r l h.here e n

  -- a step of a session that rests leaves it as it is
  holds_on : (k : Check) (answers : List Answer) (seen : List Reply) (s s' : Session) (r : Reply) (l : Lent) → s' ≡ s
      → Holds k answers seen s r l → Holds k answers seen s' r l
  holds_on k answers seen s s' r l e h = subst (λ (z : Session). Holds k answers seen z r l) (sym e) h

  abbrev check : Check
  check = check_of (standing s₀) o.call l₀

  holds : {answers : List Answer} {seen : List Reply} {s : Session} {r : Reply} {l : Lent} → Trail s₀ o l₀ answers seen s r l
      → Holds check answers seen s r l
  holds (begun h) = begins check _ _ _ h
  holds (more a t n st) = goes check _ _ _ _ _ _ a _ _ _ (holds t) n st
  holds (late {s = s} {s' = s'} a l₁ r' l₂ t n st) =
      holds_on check _ _ s s' _ _ (rests_refuse s.phase (rests check _ _ s _ _ _ (holds t) n) s a l₁ s' r' l₂ st).session (holds t)

  comes : (k : Check) (answers : List Answer) (seen : List Reply) (s : Session) (r : Reply) (l : Lent) → Holds k answers seen s r l
      → AsCalled (checked k (standing s₀) o.call l₀ answers) (λ (a : Answer). checked k (standing s₀) o.call l₀ (answers ++ a ∷ []))
      o.budget answers seen s r l
  comes (Err x) answers seen s r l h = record {
    stands = ap standing h.same.session ∙ ap (λ (b : Bool). record { is_open = b; remembered = (standing s₀).remembered }) (left_open s₀.phase);
    lent = h.same.lent;
    calls = h.calls;
    count = ap length h.none;
    says = rw h.none (over (omega arith) (λ z. let y : ◌≡◌ {A = ℕ} 0 1 = cc in absurd (omega arith))
        (reply_is r _ _ h.same.next h.same.bytes));
  }
  comes (Ok tt) answers seen s r l h =
      let w = along tree answers in let n = o.budget - length answers in let lost = lost_in tree answers in
      let made : o.budget - n ≡ length answers = omega (arith, h.within) in record {
        stands = stands_in kind lost o.budget n w l₀.list s r l h.here
            ∙ ap (λ (p : Played). (settled o.call l₀ lost p).after) (sym (play_along tree answers));
        lent = lent_in kind lost o.budget n w l₀.list s r l h.here
            ∙ ap (λ (p : Played). (settled o.call l₀ lost p).lent) (sym (play_along tree answers));
        calls = h.calls;
        count = sym h.count ∙ ap length h.calls ∙ length-map (play tree answers).calls asks;
        says = says_in _ _ o.budget (length answers) w r h.within (ap (λ (p : Played). ran p.ending) (play_along tree answers))
            (calls_more tree answers) (h.here.next ∙ ap (λ (m : ℕ). next_by m (now_of n w)) made) h.here.bytes;
      }

-- the loop of one call, wherever it stands: at its end, or at a transport call, which its answers so far leave it Spent at
pub trail : {s₀ : Session} {o : Order} {l₀ : Lent} {answers : List Answer} {seen : List Reply} {s : Session} {r : Reply} {l : Lent}
    → Trail s₀ o l₀ answers seen s r l
    → AsCalled (called (standing s₀) o.call l₀ answers) (λ (a : Answer). called (standing s₀) o.call l₀ (answers ++ a ∷ []))
    o.budget answers seen s r l
trail {s₀} {o} {l₀} {answers} {seen} {s} {r} {l} t = comes s₀ o l₀ (check s₀ o l₀) answers seen s r l (holds s₀ o l₀ t)

-- an answer after the end, Spent and refusals too, is refused with 10, makes no transport call and changes nothing
pub late_refused : {s₀ : Session} {o : Order} {l₀ : Lent} {answers : List Answer} {seen : List Reply} {s : Session} {r : Reply} {l : Lent}
    {e : SessionEnding} (a : Answer) (l₁ : Lent) (s' : Session) (r' : Reply) (l₂ : Lent)
    → Trail s₀ o l₀ answers seen s r l → r.next ≡ N.Finish e → Stepped s a l₁ s' r' l₂ → Refused R.NoSession s l₁ s' r' l₂
late_refused {s₀} {o} {l₀} {answers} {seen} {s} {r} {l} {e} a l₁ s' r' l₂ t n st =
    rests_refuse s.phase (rests s₀ o l₀ (check s₀ o l₀) answers seen s r l e (holds s₀ o l₀ t) n) s a l₁ s' r' l₂ st
