-- How far a run has come, and what it reports where it ends. Serves the proofs only.
use Rattle.std.specs.Prelude.{ℕ, ◌+◌, ◌<◌, ◌≤◌, Bool, true, false, not, cond, ◌≡◌, refl, List, [], map, eqb, length, set, get_or, take, replicate}
use Rattle.std.proofs.Common.{true≢false, sym, ap, subst, ◌∙◌, arith}
use Rattle.wire.specs.Wire.{Wire, Memory, memory_of, done, follow, play, Played, Ending, ended, spent}
use Rattle.wire.specs.Laws.Told.{outcome_of}
use Rattle.wire_transfer.specs.Laws.Flight.{Mode, Transfer, transfer_of, flight}
use Rattle.wire_transfer.specs.Laws.Flight as D
use Rattle.wire.specs.Outcomes.{Outcome}
use Rattle.wire.specs.Outcomes.{Answer}
use Rattle.wire_memap.specs.Laws.Doing.{remembered_of, stands, Remembers}
use Rattle.wire_numbers.specs.Log.{answer_of, code_of, call_of}
use Rattle.wire_numbers.specs.Results.{ending_of}
use Rattle.wire_numbers.specs.Laws.Result.{number_tells}
use Rattle.wire_numbers.specs.declared.CallEnding.{CallEnding}
use Rattle.engine_calls.specs.Calls.{lent, call_tree, zero_room, leaves_frame, leave, words_left, frame_left}
use Rattle.wire.specs.declared.Remembered.{Remembered}
use Rattle.engine_calls.specs.declared.EngineCall.{EngineCall}
use Rattle.engine_calls.specs.declared.EngineCall.TheVariants as C
use Rattle.engine_words.specs.Status.{running}
use Rattle.engine_words.specs.Laws.State.{words_tree, runs_tree, ends_tree, Waits, DueIn, due_in}
use Rattle.engine_words.specs.Laws.Step.{StandsFor, LentIn, StartedIn, SteppedIn}
use Rattle.engine_run.specs.Laws.Along.{Along, rest, along_none, along_step, rest_none}
use Rattle.engine_run.specs.Run.{within, Reports, RanAs}
use Rattle.engine_run.specs.declared.Ran.{Ran}

flies_on : (d : Mode) (s : Memory) (t : Transfer) (k : Outcome → Wire) → Waits (flight d s t k)
flies_on D.trying s t k = tt
flies_on D.aborting s t k = tt
flies_on D.raw s t k = tt

none_flight : (d : Mode) (s : Memory) (t : Transfer) (k : Outcome → Wire) → play (flight d s t k) [] ≡ record { calls = []; memory = s; ending = spent }
unfolding play
none_flight D.trying s t k = refl
none_flight D.aborting s t k = refl
none_flight D.raw s t k = refl

play_none : (t m c ws b : List ℕ) → running c ≡ true → play (words_tree t m c ws b) [] ≡ record { calls = []; memory = stands m ws b; ending = spent }
play_none t m c ws b z = ap (λ (w : Wire). play w []) (runs_tree t m c ws b z) ∙ none_flight (transfer_of t).mode (stands m ws b) (transfer_of t) _

play_done : (s : Memory) (o : Outcome) (more : List Answer) → play (done s o) more ≡ record { calls = []; memory = s; ending = ended o }
unfolding play
play_done s o more = refl

play_ended : (t m c ws b : List ℕ) (more : List Answer) → running c ≡ false
    → play (words_tree t m c ws b) more ≡ record { calls = []; memory = stands m ws b; ending = ended (outcome_of (get_or c 7 0) (get_or c 8 0)) }
play_ended t m c ws b more z = ap (λ (w : Wire). play w more) (ends_tree t m c ws b z) ∙ play_done (stands m ws b) _ more

-- a turn of the run: the transport call in flight is noted, and the step takes its answer
pub record Turns (i : ℕ) (xs t₀ m₀ c₀ room₀ words₀ b₀ l₀ t m c room words b l : List ℕ) : Type 0 where
  pub step : SteppedIn (answer_of (get_or xs i 0)) t₀ m₀ c₀ room₀ words₀ b₀ t m c room words b
  pub log : l ≡ set l₀ i (code_of (transfer_of t₀).call)
  pub readable : call_of (code_of (transfer_of t₀).call) ≡ (transfer_of t₀).call

pub turns_by : (i : ℕ) (xs t₀ m₀ c₀ room₀ words₀ b₀ l₀ : List ℕ) {t m c room words b l : List ℕ} (a : Answer)
    → (l ≡ set l₀ i (code_of (transfer_of t₀).call)) × (call_of (code_of (transfer_of t₀).call) ≡ (transfer_of t₀).call) → a ≡ answer_of (get_or xs i 0)
    → SteppedIn a t₀ m₀ c₀ room₀ words₀ b₀ t m c room words b → Turns i xs t₀ m₀ c₀ room₀ words₀ b₀ l₀ t m c room words b l
turns_by i xs t₀ m₀ c₀ room₀ words₀ b₀ l₀ {t} {m} {c} {room} {words} {b} a n h g = record {
  step = subst (λ (y : Answer). SteppedIn y t₀ m₀ c₀ room₀ words₀ b₀ t m c room words b) h g;
  log = n.0;
  readable = n.1;
}

-- After i transport calls of the run of the tree w: the words stand for what is left of it. `room₀` and `words₀` were there before
-- the call.
pub record Runs (own : Bool) (w : Wire) (limit : ℕ) (xs room₀ words₀ l₀ : List ℕ) (i : ℕ) (t m c room words b l : List ℕ) : Type 0 where
  pub at : LentIn own (words_tree t m c (cond own words room) b) t m c room₀ words₀ room words b
  pub along : Along i l₀ l (play w (rest limit xs 0)) (play (words_tree t m c (cond own words room) b) (rest limit xs i))

pub runs_start : (own : Bool) (w : Wire) (limit : ℕ) (xs room₀ words₀ l t m c room words b : List ℕ) → LentIn own w t m c room₀ words₀ room words b
    → Runs own w limit xs room₀ words₀ l 0 t m c room words b l
runs_start own w limit xs room₀ words₀ l t m c room words b h =
    subst (λ (v : Wire). Runs own v limit xs room₀ words₀ l 0 t m c room words b l) (sym h.stand.tree) (record {
      at = subst (λ (v : Wire). LentIn own v t m c room₀ words₀ room words b) h.stand.tree h;
      along = along_none l _;
    })

-- a call under way has the transport call in flight due
words_due : (t m c ws b : List ℕ) → running c ≡ true → DueIn (words_tree t m c ws b) (transfer_of t).call
words_due t m c ws b z = due_in t m c ws b (subst Waits (sym (runs_tree t m c ws b z)) (flies_on (transfer_of t).mode (stands m ws b) (transfer_of t) _))

pub runs_turn : (own : Bool) (w : Wire) (limit : ℕ) (xs room₀ words₀ l₀ : List ℕ) (i : ℕ) (t m c room words b l : List ℕ)
    {t₂ m₂ c₂ room₂ words₂ b₂ l₂ : List ℕ} → running c ≡ true → i < limit → limit ≤ length xs
    → Turns i xs t m c room words b l t₂ m₂ c₂ room₂ words₂ b₂ l₂
    → Runs own w limit xs room₀ words₀ l₀ i t m c room words b l → Runs own w limit xs room₀ words₀ l₀ (i + 1) t₂ m₂ c₂ room₂ words₂ b₂ l₂
runs_turn own w limit xs room₀ words₀ l₀ i t m c room words b l {t₂} {m₂} {c₂} {room₂} {words₂} {b₂} {l₂} e h g k r = record {
  at = record {
    stand = subst (λ (v : Wire). StandsFor v own t₂ m₂ c₂ (cond own words₂ room₂) b₂) stepped.stand.tree stepped.stand;
    other = stepped.other ∙ r.at.other;
  };
  along = along_step here limit xs i l₀ l _ (transfer_of t).call l₂ a _ h g (words_due t m c (cond own words room) b e) (k.log, k.readable) refl stepped.stand.tree r.along;
}
  where
    a : Answer
    a = answer_of (get_or xs i 0)

    here : Wire
    here = words_tree t m c (cond own words room) b

    stepped : LentIn own (follow here a) t₂ m₂ c₂ room words room₂ words₂ b₂
    stepped = subst (λ (o : Bool). LentIn o (follow (words_tree t m c (cond o words room) b) a) t₂ m₂ c₂ room words room₂ words₂ b₂) r.at.stand.whose
        (k.step.lent r.at.stand.fits r.at.stand.sized)

-- how a run has ended: with its call, or with its budget
abbrev pub ending_as : Bool → List ℕ → Ending
ending_as true c = spent
ending_as false c = ended (outcome_of (get_or c 7 0) (get_or c 8 0))

abbrev pub ending_in : List ℕ → Ending
ending_in c = ending_as (running c) c

-- the report of a run of which nothing is left
reports_none : (i : ℕ) (l₀ l : List ℕ) (p : Played) (x : Ending) (r : Ran) (ws b : List ℕ)
    → Along i l₀ l p (record { calls = []; memory = memory_of r.remembered ws b; ending = x }) → r.count ≡ i → r.ending ≡ ending_of x
    → Reports p r ws b l₀ l
reports_none i l₀ l p x r ws b al n e =
    record {
      count = omega (arith, al.calls, n);
      ending = e ∙ ap ending_of (sym al.ending);
      memory = sym al.memory;
      log = sym
          al.log;
      readable = al.readable refl;
    }

-- a run that stops after n calls: its call has ended, or no answer is left
pub record Stops (own : Bool) (w : Wire) (limit : ℕ) (xs room₀ words₀ l₀ : List ℕ) (n : ℕ) (t m c room words b l : List ℕ) : Type 0 where
  pub runs : Runs own w limit xs room₀ words₀ l₀ n t m c room words b l
  pub over : running c ≡ true → limit ≤ n

-- where no answer is left
pub stops_at_end : (own : Bool) (w : Wire) (limit : ℕ) (xs room₀ words₀ l₀ : List ℕ) (n : ℕ) (t m c room words b l : List ℕ) → n ≡ limit
    → Runs own w limit xs room₀ words₀ l₀ n t m c room words b l → Stops own w limit xs room₀ words₀ l₀ limit t m c room words b l
stops_at_end own w limit xs room₀ words₀ l₀ n t m c room words b l e r = record {
  runs = subst (λ (i : ℕ). Runs own w limit xs room₀ words₀ l₀ i t m c room words b l) e r;
  over = λ _. omega arith;
}

stop_at : (going : Bool) (own : Bool) (w : Wire) (limit : ℕ) (xs room₀ words₀ l₀ : List ℕ) (n : ℕ) (t m c room words b l : List ℕ) (r : Ran)
    → running c ≡ going → r.count ≡ n → r.ending ≡ ending_of (ending_as going c) → r.remembered ≡ remembered_of m
    → Stops own w limit xs room₀ words₀ l₀ n t m c room words b l → Reports (play w (rest limit xs 0)) r (cond own words room) b l₀ l
stop_at true own w limit xs room₀ words₀ l₀ n t m c room words b l r e h k g s =
    reports_none n l₀ l _ spent r (cond own words room) b
    (subst (λ (z : Memory). Along n l₀ l (play w (rest limit xs 0)) (record { calls = []; memory = z; ending = spent })) (ap (λ (y : Remembered). memory_of y (cond own words room) b) (sym g))
    (subst (λ (z : Played). Along n l₀ l (play w (rest limit xs 0)) z)
    (ap (play (words_tree t m c (cond own words room) b)) (rest_none limit xs n (s.over e)) ∙ play_none t m c (cond own words room) b e) s.runs.along)) h k
stop_at false own w limit xs room₀ words₀ l₀ n t m c room words b l r e h k g s =
    reports_none n l₀ l _ (ended (outcome_of (get_or c 7 0) (get_or c 8 0))) r (cond own words room) b
    (subst (λ (z : Memory). Along n l₀ l (play w (rest limit xs 0)) (record { calls = []; memory = z; ending = ended (outcome_of (get_or c 7 0) (get_or c 8 0)) })) (ap (λ (y : Remembered). memory_of y (cond own words room) b) (sym g))
    (subst (λ (z : Played). Along n l₀ l (play w (rest limit xs 0)) z) (play_ended t m c (cond own words room) b (rest limit xs n) e) s.runs.along)) h k

-- a report over the words of the call's runs is one over what the caller lends
reports_ran : (c : EngineCall) (p : Played) (r : Ran) (ws frame₀ words₀ frame words b l₀ l : List ℕ)
    → frame ≡ leave (leaves_frame c) (eqb r.ending.number 0) ws frame₀ → words ≡ words_left c ws words₀
    → Reports p r ws b l₀ l → RanAs c p r frame₀ words₀ frame words b l₀ l
reports_ran c p r ws frame₀ words₀ frame words b l₀ l f e h =
    record {
      count = h.count;
      ending = h.ending;
      remembered = ap (λ (m : Memory). m.remembered) h.memory;
      framed = f ∙ ap (λ (z : CallEnding). leave (leaves_frame c) (eqb z.number 0) ws frame₀) h.ending
          ∙ ap (λ (ok : Bool). leave (leaves_frame c) ok ws frame₀) (number_tells p.ending)
          ∙ ap (λ (m : Memory). frame_left c p.ending m.words frame₀) h.memory;
      lent = e ∙ ap (λ (m : Memory). words_left c m.words words₀) h.memory;
      buf = ap (λ (m : Memory). m.buf) h.memory;
      log = h.log;
      readable = h.readable;
    }

-- no call that runs over the caller's words has a frame
own_frame : (c : EngineCall) (ok : Bool) (ws frame : List ℕ) → true ≡ lent c → frame ≡ leave (leaves_frame c) ok ws frame
own_frame (C.Connect c) ok ws frame e = refl
own_frame (C.Memory c) ok ws frame e = refl
own_frame (C.Core c) ok ws frame e = absurd (true≢false e)
own_frame (C.Fpb c) ok ws frame e = refl
own_frame (C.Nrf c) ok ws frame e = refl

-- what a run leaves is what the caller finds: his words, and the frame in the room's first words
pub ran_as : (c : EngineCall) (own : Bool) (p : Played) (r : Ran) (room words b l₀ l room₀ words₀ frame₀ frame : List ℕ) → lent c ≡ own
    → Reports p r (cond own words room) b l₀ l → cond own room words ≡ cond own room₀ words₀
    → frame ≡ leave (leaves_frame c) (eqb r.ending.number 0) room frame₀ → RanAs c p r frame₀ words₀ frame words b l₀ l
ran_as c true p r room words b l₀ l room₀ words₀ frame₀ frame e h o f =
    reports_ran c p r words frame₀ words₀ frame words b l₀ l
    (f ∙ sym (own_frame c (eqb r.ending.number 0) room frame₀ (sym e)) ∙ own_frame c (eqb r.ending.number 0) words frame₀ (sym e))
    (ap (λ (own : Bool). cond own words words₀) (sym e)) h
ran_as c false p r room words b l₀ l room₀ words₀ frame₀ frame e h o f =
    reports_ran c p r room frame₀ words₀ frame words b l₀ l f (o ∙ ap (λ (own : Bool). cond own room words₀) (sym e)) h

-- the whole run: over a room of zeros, within the budget
pub run_ran : (c : EngineCall) (r : Remembered) (budget limit : ℕ) (xs frame₀ words₀ b₀ l₀ : List ℕ) (leaves : Bool) (n : ℕ) (t₁ m₁ c₁ : List ℕ) {x : Ran} {room words b l frame : List ℕ}
    → leaves ≡ leaves_frame c → take limit xs ≡ take budget xs
    → x.count ≡ n → x.ending ≡ ending_of (ending_in c₁) → x.remembered ≡ remembered_of m₁
    → Stops (lent c) (call_tree c r zero_room words₀ b₀) limit xs zero_room words₀ l₀ n t₁ m₁ c₁ room words b l
    → frame ≡ leave leaves (eqb x.ending.number 0) room frame₀
    → RanAs c (play (call_tree c r zero_room words₀ b₀) (within budget xs)) x frame₀ words₀ frame words b l₀ l
run_ran c r budget limit xs frame₀ words₀ b₀ l₀ leaves n t₁ m₁ c₁ {x} {room} {words} {b} {l} {frame} hf ht hn he hm g h =
    ran_as c (lent c) (play (call_tree c r zero_room words₀ b₀) (within budget xs)) x room words b l₀ l zero_room words₀ frame₀ frame refl
    (subst (λ (as' : List ℕ). Reports (play (call_tree c r zero_room words₀ b₀) (map answer_of as')) x (cond (lent c) words room) b l₀ l) ht
    (stop_at (running c₁) (lent c) (call_tree c r zero_room words₀ b₀) limit xs zero_room words₀ l₀ n t₁ m₁ c₁ room words b l x refl hn he hm g))
    g.runs.at.other (h ∙ ap (λ (y : Bool). leave y (eqb x.ending.number 0) room frame₀) hf)

-- a call that is under way is not over
pub still_running : (x y : Bool) → x ≡ y → not x ≡ false → y ≡ true
still_running true y h e = sym h
still_running false y h e = absurd (true≢false e)

pub never_running : (x y : Bool) {A : Type 0} → x ≡ y → not x ≡ true → y ≡ true → A
never_running true y h e g = absurd (true≢false (sym e))
never_running false y h e g = absurd (true≢false (sym g ∙ sym h))

-- a start in words that remember r
pub started_in : (x : EngineCall) (r : Remembered) (m₀ room₀ words₀ b₀ : List ℕ) {t m c room words b : List ℕ} → Remembers r m₀
    → StartedIn x (replicate 7 0) m₀ (replicate 9 0) room₀ words₀ b₀ t m c room words b
    → LentIn (lent x) (call_tree x r room₀ words₀ b₀) t m c room₀ words₀ room words b
started_in x r m₀ room₀ words₀ b₀ {t} {m} {c} {room} {words} {b} h g =
    subst (λ (y : Remembered). LentIn (lent x) (call_tree x y room₀ words₀ b₀) t m c room₀ words₀ room words b) h.is (g.lent (refl, h.sized) refl)
