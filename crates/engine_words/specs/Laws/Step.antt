-- What the stores of the code leave, and why the words of a state stand for the rest of the call. Serves the proofs only.
use Rattle.std.specs.Prelude.{ℕ, ◌+◌, ◌%◌, ◌<◌, Bool, true, false, cond, List, ◌≡◌, refl, eqb, ltb, set, length, get_or, Ok, Option, None, Some}
use Rattle.std.proofs.Common.{true≢false, sym, ap, subst, ◌∙◌, arith, lt-ltb, le-ltb}
use Rattle.wire.specs.Wire.{Wire, Memory, memory_of, done, follow}
use Rattle.wire.specs.declared.Remembered.{Remembered}
use Rattle.wire.specs.Laws.Told.{outcome_of}
use Rattle.wire.specs.Outcomes.{Answer}
use Rattle.wire.specs.Outcomes.{Outcome}
use Rattle.wire_memap.specs.Ops.{perform}
use Rattle.wire_memap.specs.Laws.Doing.{OpSized, remembered_of, stands, Remembers}
use Rattle.wire_memap.specs.Laws.Flight.{Fits, Begun, Goes, Tries, step_tree}
use Rattle.wire_memap.specs.declared.Op.{Op}
use Rattle.call.specs.Change.{changed}
use Rattle.call.specs.Job.{Job, ends, exec}
use Rattle.call.specs.Laws.Asks.{then_of, next_job, exec_op, then_is}
use Rattle.call_at.specs.declared.At.{At}
use Rattle.call.specs.declared.Asks.{Asks}
use Rattle.call.specs.declared.Next.{Next}
use Rattle.call.specs.declared.Next.TheVariants.{Do, End}
use Rattle.call.specs.declared.Change.{Change}
use Rattle.call.specs.declared.Change.TheVariants as C
use Rattle.engine_calls.specs.Laws.After.{call_after, asks_job, asks_next, whole_after}
use Rattle.engine_calls.specs.Calls.{job_of, call_tree}
use Rattle.engine_calls.specs.Calls as E
use Rattle.engine_calls.specs.declared.EngineCall.{EngineCall}
use Rattle.engine_words.specs.Status.{Status, Running, Ended, status_as, running, status_of, own_of, status_tree, CountedIn}
use Rattle.engine_words.specs.Laws.State.{which, at_of, CallSized, flight_tree, words_tree, by_words}

-- the stores of the code
abbrev pub stored_at : At → List ℕ → List ℕ
stored_at at c = set (set (set (set (set (set c 0 at.step) 1 at.a) 2 at.b) 3 at.c) 4 at.d) 5 at.e

abbrev pub ended_as : ℕ → ℕ → List ℕ → List ℕ
ended_as number value c = set (set (set c 6 (2 + get_or c 6 0 % 2)) 7 number) 8 value

-- a call that has ended with o
abbrev pub EndsIn : Outcome → List ℕ → List ℕ → Type 0
EndsIn o c₀ c = CallSized c₀ → (status_of c ≡ Ended o) × CallSized c × (own_of c ≡ own_of c₀)

pub ends_in : (o : Outcome) (n v : ℕ) (c : List ℕ) → outcome_of n v ≡ o → EndsIn o c (ended_as n v c)
ends_in o n v c e = by_words (λ c. (status_of (ended_as n v c) ≡ Ended o) × CallSized (ended_as n v c) × (own_of (ended_as n v c) ≡ own_of c))
    (λ _ _ _ _ _ _ w _ _. (simp (le-ltb (2 + w % 2) 2 (omega arith)) (ap Ended e), refl, ap (λ (x : ℕ). eqb x 1) (kept w))) c
  where
    kept : (w : ℕ) → (2 + w % 2) % 2 ≡ w % 2
    kept w = omega arith

-- The words t, m and c stand for the tree w, over the words ws and the buffer b; `own` says whose words ws are.
pub record StandsFor (w : Wire) (own : Bool) (t m c ws b : List ℕ) : Type 0 where
  pub tree : w ≡ words_tree t m c ws b
  pub fits : Fits t m
  pub sized : CallSized c
  pub whose : own_of c ≡ own
  pub counted : CountedIn (status_of c) t

pub stands_for : {w v : Wire} {own : Bool} {t m c ws b : List ℕ} → w ≡ v → StandsFor v own t m c ws b → StandsFor w own t m c ws b
stands_for {own = own} {t} {m} {c} {ws} {b} e g = subst (λ (x : Wire). StandsFor x own t m c ws b) (sym e) g

-- what a call under way asks for is begun, or it ends
pub record BeginsNext (n : Next) (t₀ m₀ c₀ t m c : List ℕ) : Type 0 where
  pub next : status_of c₀ ≡ Running → Fits t₀ m₀ → CallSized c₀ → (ws b : List ℕ)
      → StandsFor (exec (next_job n (call_after (at_of c₀))) (stands m₀ ws b)) (own_of c₀) t m c ws b

pub next_does : (w : Op) (t₀ m₀ c t m : List ℕ) → Begun (perform w) t₀ m₀ t m → BeginsNext (Do w) t₀ m₀ c t m c
next_does w t₀ m₀ c t m g = record {
  next = λ run f s ws b. record {
    tree = exec_op w (call_after (at_of c)) (stands m₀ ws b) ∙ (g ws f).tree b (then_of (call_after (at_of c)))
        ∙ ap (λ (d : Status). status_tree d (flight_tree t m c ws b) (stands m ws b)) (sym run);
    fits = (g ws f).fits;
    sized = s;
    whose = refl;
    counted = subst (λ (d : Status). CountedIn d t) (sym run) (g ws f).counted;
  };
}

-- a call that has ended with o stands for that end
ends_for : (o : Outcome) (t m c₀ c ws b : List ℕ) → EndsIn o c₀ c → Fits t m → CallSized c₀ → StandsFor (done (stands m ws b) o) (own_of c₀) t m c ws b
ends_for o t m c₀ c ws b g f s = let e = g s in record {
  tree = ap (λ (d : Status). status_tree d (flight_tree t m c ws b) (stands m ws b)) (sym e.0);
  fits = f;
  sized = e.1;
  whose = e.2;
  counted = subst (λ (d : Status). CountedIn d t) (sym e.0) tt;
}

exec_ends : (o : Outcome) (m : Memory) → exec (ends o) m ≡ done m o
unfolding exec
exec_ends o m = refl

pub next_ends : (o : Outcome) (t₀ m₀ c₀ c : List ℕ) → EndsIn o c₀ c → BeginsNext (End o) t₀ m₀ c₀ t₀ m₀ c
next_ends o t₀ m₀ c₀ c g = record { next = λ run f s ws b. stands_for (exec_ends o (stands m₀ ws b)) (ends_for o t₀ m₀ c₀ c ws b g f s) }

-- a change of what is kept
pub record Changes (x : Change) (m₀ ws₀ b₀ m ws b : List ℕ) : Type 0 where
  pub made : OpSized m₀ → (changed x (stands m₀ ws₀ b₀) ≡ stands m ws b) × OpSized m

pub changes_in : (x : Change) (m₀ ws₀ b₀ : List ℕ) {r r₂ : Remembered} {m ws b : List ℕ} → r ≡ remembered_of m₀
    → changed x (memory_of r ws₀ b₀) ≡ memory_of r₂ ws b → (OpSized m₀ → Remembers r₂ m) → Changes x m₀ ws₀ b₀ m ws b
changes_in x m₀ ws₀ b₀ {ws = ws} {b} e h g = record {
  made = λ s.
      (ap (λ (r : Remembered). changed x (memory_of r ws₀ b₀)) (sym e) ∙ h ∙ ap (λ (r : Remembered). memory_of r ws b) (sym (g s).is), (g s).sized);
}

-- a change that is none
pub changes_none : (x : Change) (m ws b : List ℕ) → x ≡ C.Nothing → Changes x m ws b m ws b
changes_none x m ws b e = record { made = λ s. (ap (λ (y : Change). changed y (stands m ws b)) e, s) }

-- where an operation of the call is in flight, and what it asks for then
abbrev Stored : At → List ℕ → Type 0
Stored at c = (at_of (stored_at at c) ≡ at) × CallSized (stored_at at c) × (own_of (stored_at at c) ≡ own_of c) × (status_of (stored_at at c) ≡ status_of c)

stored_at_lem : (at : At) (c : List ℕ) → CallSized c → Stored at c
stored_at_lem at = by_words (Stored at) (λ _ _ _ _ _ _ _ _ _. (refl, refl, refl, refl))

pub record AsksIn (a : Asks) (t₀ m₀ c₀ ws₀ b₀ t m c ws b : List ℕ) : Type 0 where
  pub asks : status_of c₀ ≡ Running → Fits t₀ m₀ → CallSized c₀ → StandsFor (exec (asks_job a) (stands m₀ ws₀ b₀)) (own_of c₀) t m c ws b

asked_at : (a : Asks) (t₀ m₀ c₀ ws₀ b₀ m₁ c₁ t m c ws b : List ℕ) → c₁ ≡ stored_at a.at c₀ → Changes a.change m₀ ws₀ b₀ m₁ ws b
    → BeginsNext a.next t₀ m₁ c₁ t m c → status_of c₀ ≡ Running → Fits t₀ m₀ → CallSized c₀
    → StandsFor (exec (asks_job a) (stands m₀ ws₀ b₀)) (own_of c₀) t m c ws b
asked_at a t₀ m₀ c₀ ws₀ b₀ m₁ c₁ t m c ws b at ch g run f s = record {
  tree = asks_next a (stands m₀ ws₀ b₀) (stands m₁ ws b) x.0 ∙ ap (λ (p : At). exec (next_job a.next (call_after p)) (stands m₁ ws b)) (sym y.0) ∙ z.tree;
  fits = z.fits;
  sized = z.sized;
  whose = z.whose ∙ y.2;
  counted = z.counted;
}
  where
    x : (changed a.change (stands m₀ ws₀ b₀) ≡ stands m₁ ws b) × OpSized m₁
    x = ch.made f.1

    y : Stored a.at c₀
    y = stored_at_lem a.at c₀ s

    z : StandsFor (exec (next_job a.next (call_after (at_of (stored_at a.at c₀)))) (stands m₁ ws b)) (own_of (stored_at a.at c₀)) t m c ws b
    z = (subst (λ (l : List ℕ). BeginsNext a.next t₀ m₁ l t m c) at g).next (y.3 ∙ run) (f.0, x.1) y.1 ws b

pub asks_in : (a : Asks) (t₀ m₀ c₀ ws₀ b₀ m₁ c₁ t m c ws b : List ℕ) → c₁ ≡ stored_at a.at c₀ → Changes a.change m₀ ws₀ b₀ m₁ ws b
    → BeginsNext a.next t₀ m₁ c₁ t m c → AsksIn a t₀ m₀ c₀ ws₀ b₀ t m c ws b
asks_in a t₀ m₀ c₀ ws₀ b₀ m₁ c₁ t m c ws b at ch g = record { asks = asked_at a t₀ m₀ c₀ ws₀ b₀ m₁ c₁ t m c ws b at ch g }

-- a step of a call under way: its operation goes on, or it is over and the call asks for what follows
pub record StepsIn (a : Answer) (t₀ m₀ c₀ ws₀ b₀ t m c ws b : List ℕ) : Type 0 where
  pub steps : status_of c₀ ≡ Running → Fits t₀ m₀ → CallSized c₀
      → StandsFor (follow (flight_tree t₀ m₀ c₀ ws₀ b₀) a) (own_of c₀) t m c ws b

pub step_moves : (a : Answer) (t₀ m₀ c₀ ws₀ b : List ℕ) {r : Option Outcome} {t m ws : List ℕ} → r ≡ None → (Fits t₀ m₀ → Goes (step_tree t₀ m₀ a ws₀) r t m ws)
    → StepsIn a t₀ m₀ c₀ ws₀ b t m c₀ ws b
step_moves a t₀ m₀ c₀ ws₀ b {r} {t} {m} {ws} e g = record {
  steps = λ run f s. record {
    tree = (h f).tree b _ ∙ ap (λ (d : Status). status_tree d (flight_tree t m c₀ ws b) (stands m ws b)) (sym run);
    fits = (h f).fits;
    sized = s;
    whose = refl;
    counted = subst (λ (d : Status). CountedIn d t) (sym run) (h f).counted;
  };
}
  where
    h : Fits t₀ m₀ → Goes (step_tree t₀ m₀ a ws₀) None t m ws
    h f = subst (λ (x : Option Outcome). Goes (step_tree t₀ m₀ a ws₀) x t m ws) e (g f)

-- what follows an operation that has come to the outcome o
pub record FinishesIn (o : Outcome) (t₀ m₀ c₀ ws₀ b₀ t m c ws b : List ℕ) : Type 0 where
  pub follows : status_of c₀ ≡ Running → Fits t₀ m₀ → CallSized c₀ → StandsFor (exec (call_after (at_of c₀) o) (stands m₀ ws₀ b₀)) (own_of c₀) t m c ws b

pub finish_ends : (o : Outcome) (t m c₀ c ws b : List ℕ) → get_or c₀ 0 0 ≡ 0 → EndsIn o c₀ c → FinishesIn o t m c₀ ws b t m c ws b
finish_ends o t m c₀ c ws b z g = record {
  follows = λ run f s. stands_for (ap (λ (j : Job). exec j (stands m ws b)) (whole_after (at_of c₀) o z) ∙ exec_ends o (stands m ws b)) (ends_for o t m c₀ c ws b g f s);
}

pub finish_asks : (o : Outcome) (t₀ m₀ c₀ ws₀ b₀ : List ℕ) (x : Asks) {p : At} {t m c ws b : List ℕ} → p ≡ at_of c₀ → call_after p o ≡ asks_job x
    → AsksIn x t₀ m₀ c₀ ws₀ b₀ t m c ws b → FinishesIn o t₀ m₀ c₀ ws₀ b₀ t m c ws b
finish_asks o t₀ m₀ c₀ ws₀ b₀ x at is k = record {
  follows = λ run f s. stands_for (ap (λ (j : Job). exec j (stands m₀ ws₀ b₀)) (ap (λ (p : At). call_after p o) (sym at) ∙ is)) (k.asks run f s);
}

pub step_finishes : (a : Answer) (t₀ m₀ c₀ ws₀ b₀ : List ℕ) {r : Option Outcome} {t₁ m₁ ws₁ : List ℕ} (o : Outcome) {t m c ws b : List ℕ} → r ≡ Some o
    → (Fits t₀ m₀ → Goes (step_tree t₀ m₀ a ws₀) r t₁ m₁ ws₁) → FinishesIn o t₁ m₁ c₀ ws₁ b₀ t m c ws b → StepsIn a t₀ m₀ c₀ ws₀ b₀ t m c ws b
step_finishes a t₀ m₀ c₀ ws₀ b₀ {r} {t₁} {m₁} {ws₁} o e g k = record {
  steps = λ run f s. stands_for ((h f).tree b₀ _ ∙ then_is (call_after (at_of c₀)) (stands m₁ ws₁ b₀) o) (k.follows run (h f).fits s);
}
  where
    h : Fits t₀ m₀ → Goes (step_tree t₀ m₀ a ws₀) (Some o) t₁ m₁ ws₁
    h f = subst (λ (y : Option Outcome). Goes (step_tree t₀ m₀ a ws₀) y t₁ m₁ ws₁) e (g f)

-- The same over a room and the caller's words, of which `own` says which one the call runs over; the other is unchanged.
pub record LentIn (own : Bool) (w : Wire) (t m c room₀ words₀ room words b : List ℕ) : Type 0 where
  pub stand : StandsFor w own t m c (cond own words room) b
  pub other : cond own room words ≡ cond own room₀ words₀

-- a call is started in the words t₀, m₀ and c₀, of which m₀ has what is remembered
pub record StartedIn (x : EngineCall) (t₀ m₀ c₀ room₀ words₀ b₀ t m c room words b : List ℕ) : Type 0 where
  pub lent : Fits t₀ m₀ → CallSized c₀ → LentIn (E.lent x) (call_tree x (remembered_of m₀) room₀ words₀ b₀) t m c room₀ words₀ room words b

-- a step; a call that has ended stays as it is
pub record SteppedIn (a : Answer) (t₀ m₀ c₀ room₀ words₀ b₀ t m c room words b : List ℕ) : Type 0 where
  pub lent : Fits t₀ m₀ → CallSized c₀
      → LentIn (own_of c₀) (follow (words_tree t₀ m₀ c₀ (cond (own_of c₀) words₀ room₀) b₀) a) t m c room₀ words₀ room words b
  pub stays : (o : Outcome) → status_of c₀ ≡ Ended o → (t ≡ t₀) × (m ≡ m₀) × (c ≡ c₀)

-- how a call stands that is begun
begun_set : (n : ℕ) (c : List ℕ) → n < 2 → CallSized c → (own_of (set c 6 n) ≡ eqb (n % 2) 1) × CallSized (set c 6 n) × (status_of (set c 6 n) ≡ Running)
begun_set n c l = by_words (λ c. (own_of (set c 6 n) ≡ eqb (n % 2) 1) × CallSized (set c 6 n) × (status_of (set c 6 n) ≡ Running))
    (λ _ _ _ _ _ _ _ _ _. (refl, refl, simp (lt-ltb n 2 l))) c

pub starts_in : (n : ℕ) (own : Bool) (x : EngineCall) (y : Asks) (t₀ m₀ c₀ room₀ words₀ b₀ : List ℕ) {t m c room words b : List ℕ} → n < 2
    → eqb (n % 2) 1 ≡ own → E.lent x ≡ own → job_of x (length words₀) (length b₀) ≡ asks_job y
    → AsksIn y t₀ m₀ (set c₀ 6 n) (cond own words₀ room₀) b₀ t m c (cond own words room) b → cond own room words ≡ cond own room₀ words₀
    → StartedIn x t₀ m₀ c₀ room₀ words₀ b₀ t m c room words b
starts_in n own x y t₀ m₀ c₀ room₀ words₀ b₀ {t} {m} {c} {room} {words} {b} few e l is k o = record {
  lent = λ f s. let q = begun_set n c₀ few s in
      subst (λ (own : Bool). LentIn own (exec (job_of x (length words₀) (length b₀)) (memory_of (remembered_of m₀) (cond own words₀ room₀) b₀)) t m c room₀ words₀ room words b) (sym l)
      (record {
        stand = subst (λ (p : Bool). StandsFor (exec (job_of x (length words₀) (length b₀)) (stands m₀ (cond own words₀ room₀) b₀)) p t m c (cond own words room) b)
            (q.0 ∙ e)
            (stands_for (ap (λ (j : Job). exec j (stands m₀ (cond own words₀ room₀) b₀)) is) (k.asks q.2 f q.1));
        other = o;
      });
}

-- a step of a call under way, over the words that `own` names
pub steps_in : (own : Bool) (a : Answer) (t₀ m₀ c₀ room₀ words₀ b₀ : List ℕ) {t m c room words b : List ℕ} → running c₀ ≡ true → own_of c₀ ≡ own
    → StepsIn a t₀ m₀ c₀ (cond own words₀ room₀) b₀ t m c (cond own words room) b → cond own room words ≡ cond own room₀ words₀
    → SteppedIn a t₀ m₀ c₀ room₀ words₀ b₀ t m c room words b
steps_in own a t₀ m₀ c₀ room₀ words₀ b₀ {t} {m} {c} {room} {words} {b} z w k o = record {
  lent = λ f s. subst (λ (own : Bool). LentIn own (follow (words_tree t₀ m₀ c₀ (cond own words₀ room₀) b₀) a) t m c room₀ words₀ room words b) (sym w)
      (record {
        stand = stands_for (ap (λ (d : Status). follow (status_tree d (flight_tree t₀ m₀ c₀ (cond own words₀ room₀) b₀) (stands m₀ (cond own words₀ room₀) b₀)) a) run)
            (subst (λ (p : Bool). StandsFor (follow (flight_tree t₀ m₀ c₀ (cond own words₀ room₀) b₀) a) p t m c (cond own words room) b) w (k.steps run f s));
        other = o;
      });
  stays = λ e h. absurd (runs_on e (sym run ∙ h));
}
  where
    run : status_of c₀ ≡ Running
    run = ap (λ (x : Bool). status_as x (outcome_of (get_or c₀ 7 0) (get_or c₀ 8 0))) z

    runs_on : (e : Outcome) → Running ≡ Ended e → ⊥
    runs_on e h = let q : ◌≡◌ {A = ℕ} 0 1 = ap which h in absurd (omega arith)

-- a step of one that has ended
pub ends_again : (a : Answer) (t m c room words b : List ℕ) → running c ≡ false → SteppedIn a t m c room words b t m c room words b
ends_again a t m c room words b z = record {
  lent = λ f s. record {
    stand = record { tree = same; fits = f; sized = s; whose = refl; counted = subst (λ (d : Status). CountedIn d t) (sym ended) tt };
    other = refl;
  };
  stays = λ e h. (refl, refl, refl);
}
  where
    o : Outcome
    o = outcome_of (get_or c 7 0) (get_or c 8 0)

    ws : List ℕ
    ws = cond (own_of c) words room

    ended : status_of c ≡ Ended o
    ended = ap (λ (x : Bool). status_as x o) z

    same : follow (words_tree t m c ws b) a ≡ words_tree t m c ws b
    same = ap (λ (d : Status). follow (status_tree d (flight_tree t m c ws b) (stands m ws b)) a) ended
        ∙ ap (λ (d : Status). status_tree d (flight_tree t m c ws b) (stands m ws b)) (sym ended)

-- whose words a call under way runs over, by the number that the code tests
pub own_words : (c : List ℕ) → get_or c 6 0 ≡ 1 → own_of c ≡ true
own_words c e = ap (λ (n : ℕ). eqb (n % 2) 1) e

pub own_row : (c : List ℕ) → get_or c 6 0 < 2 → (get_or c 6 0 ≡ 1 → ⊥) → own_of c ≡ false
own_row c l h = ap (λ (n : ℕ). eqb (n % 2) 1) (none (get_or c 6 0) l h)
  where
    none : (n : ℕ) → n < 2 → (n ≡ 1 → ⊥) → n ≡ 0
    none n l h = omega arith

-- What a step over the room that does nothing where it answers false leaves: the step with the answer a, of a call under way, or all as
-- it was.
pub record TriesIn (a : Answer) (r : Bool) (t₀ m₀ c room₀ t m room : List ℕ) : Type 0 where
  pub moved : r ≡ true → (words b : List ℕ) → SteppedIn a t₀ m₀ c room₀ words b t m c room words b
  pub goes : r ≡ true → running c ≡ true
  pub stays : r ≡ false → (t ≡ t₀) × (m ≡ m₀) × (room ≡ room₀)

pub tries_in : (v : ℕ) (t₀ m₀ c room₀ : List ℕ) {r : Bool} {t m room : List ℕ} → get_or c 6 0 ≡ 0 → Tries (step_tree t₀ m₀ (Ok v) room₀) r t₀ m₀ room₀ t m room
    → TriesIn (Ok v) r t₀ m₀ c room₀ t m room
tries_in v t₀ m₀ c room₀ z g = record {
  moved = λ e words b. steps_in false (Ok v) t₀ m₀ c room₀ words b (ap (λ (n : ℕ). ltb n 2) z) (ap (λ (n : ℕ). eqb (n % 2) 1) z)
      (step_moves (Ok v) t₀ m₀ c room₀ b refl (g.moved e)) refl;
  goes = λ e. ap (λ (n : ℕ). ltb n 2) z;
  stays = g.stays;
}

pub tries_none : (a : Answer) (t m c room : List ℕ) → TriesIn a false t m c room t m room
tries_none a t m c room = record {
  moved = λ e. absurd (true≢false (sym e));
  goes = λ e. absurd (true≢false (sym e));
  stays = λ _. (refl, refl, refl);
}

-- a step from words that are as they were
pub stepped_from : (a : Answer) (t₀ m₀ c₀ room₀ words₀ b₀ : List ℕ) {t₁ m₁ room₁ t m c room words b : List ℕ} → (t₁ ≡ t₀) × (m₁ ≡ m₀) × (room₁ ≡ room₀)
    → SteppedIn a t₁ m₁ c₀ room₁ words₀ b₀ t m c room words b → SteppedIn a t₀ m₀ c₀ room₀ words₀ b₀ t m c room words b
stepped_from a t₀ m₀ c₀ room₀ words₀ b₀ {t₁} {m₁} {room₁} {t} {m} {c} {room} {words} {b} e g =
    subst (λ (l : List ℕ). SteppedIn a l m₀ c₀ room₀ words₀ b₀ t m c room words b) e.0
    (subst (λ (l : List ℕ). SteppedIn a t₁ l c₀ room₀ words₀ b₀ t m c room words b) e.1
    (subst (λ (l : List ℕ). SteppedIn a t₁ m₁ c₀ l words₀ b₀ t m c room words b) e.2 g))
