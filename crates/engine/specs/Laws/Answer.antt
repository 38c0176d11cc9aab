-- What comes next in the tree of a state is what its words tell. Serves the proofs only.
use Rattle.std.specs.Prelude.{ℕ, ◌-◌, ◌%◌, Bool, true, false, not, cond, List, [], ◌≡◌, refl, eqb, ltb, get_or, replicate}
use Rattle.std.proofs.Common.{sym, ap, subst, ◌∙◌, arith, lt-ltb, le-ltb, ltb-true, ltb-false, ne_eqb}
use Rattle.wire.specs.Bytes.{handed, padded}
use Rattle.wire.specs.Wire.{Wire, Memory, memory_of}
use Rattle.wire.specs.Laws.Told.{outcome_of}
use Rattle.wire_transfer.specs.Laws.Flight.{Mode, Transfer, transfer_of, flight}
use Rattle.wire_transfer.specs.Laws.Flight as D
use Rattle.wire.specs.Outcomes.{Answer}
use Rattle.wire.specs.declared.Call.{Call}
use Rattle.wire.specs.Outcomes.{Outcome}
use Rattle.wire_numbers.specs.Results.{result_of}
use Rattle.wire_numbers.specs.Numbers.{numbers_of}
use Rattle.wire_numbers.specs.declared.CallEnding.{CallEnding}
use Rattle.wire_numbers.specs.declared.TransportCall.{TransportCall}
use Rattle.wire_memap.specs.Laws.Doing.{remembered_of, stands, Remembers}
use Rattle.wire_memap.specs.Laws.Flight.{Fits}
use Rattle.engine_calls.specs.Calls.{lent, call_tree}
use Rattle.engine_calls.specs.declared.EngineCall.{EngineCall}
use Rattle.wire.specs.declared.Remembered.{Remembered}
use Rattle.engine_words.specs.Status.{status_as, status_of, own_of, running, status_tree, CountedIn}
use Rattle.engine_words.specs.Laws.State.{CallSized, on_room, flight_tree, words_tree, runs_tree, ends_tree, by_words}
use Rattle.engine_words.specs.Laws.Step.{LentIn, StartedIn, SteppedIn}
use Rattle.engine.specs.Step.{next_of, bytes_of, memory_in, awaited, Lent, Stepped}
use Rattle.engine.specs.Laws.State.{state_tree}
use Rattle.engine.specs.declared.NextStep.{NextStep}
use Rattle.engine.specs.declared.NextStep.TheVariants as N
use Rattle.engine.specs.declared.State.{State}
use Rattle.engine.specs.declared.StepAnswer.{StepAnswer}

-- the tree w tells the answer's next call or ending, its bytes, and the memory m
pub record Tells (w : Wire) (next : NextStep CallEnding) (bytes : List ℕ) (m : Memory) : Type 0 where
  pub step : next ≡ next_of w
  pub hands : bytes ≡ padded (bytes_of w)
  pub memory : m ≡ memory_in w

flight_tells : (d : Mode) (m : Memory) (t : Transfer) (k : Outcome → Wire) → Tells (flight d m t k) (N.Make (numbers_of t.call)) (padded (handed t.call)) m
flight_tells D.trying m t k = record { step = refl; hands = refl; memory = refl }
flight_tells D.aborting m t k = record { step = refl; hands = refl; memory = refl }
flight_tells D.raw m t k = record { step = refl; hands = refl; memory = refl }

-- an answer to the words t, m and c
pub record Answers (t m c : List ℕ) (x : StepAnswer) : Type 0 where
  pub words : x.state ≡ record { transfer = t; op = m; call = c }
  pub tells : (ws b : List ℕ) → Tells (words_tree t m c ws b) x.next x.bytes (stands m ws b)

pub answers_call : (t m c : List ℕ) (x : Call) {n : TransportCall} {bs : List ℕ} → running c ≡ true → x ≡ (transfer_of t).call → n ≡ numbers_of x
    → bs ≡ padded (handed x) → Answers t m c (record { next = N.Make n; state = record { transfer = t; op = m; call = c }; bytes = bs })
answers_call t m c x {n} {bs} z d h g = record {
  words = refl;
  tells = λ ws b. subst (λ (w : Wire). Tells w (N.Make n) bs (stands m ws b)) (sym (runs_tree t m c ws b z))
      (subst (λ (y : TransportCall). Tells (flight_tree t m c ws b) (N.Make y) bs (stands m ws b)) (sym (h ∙ ap numbers_of d))
      (subst (λ (y : List ℕ). Tells (flight_tree t m c ws b) (N.Make (numbers_of (transfer_of t).call)) y (stands m ws b)) (sym (g ∙ ap (λ (x : Call). padded (handed x)) d))
      (flight_tells (transfer_of t).mode (stands m ws b) (transfer_of t) _)));
}

pub answers_end : (t m c : List ℕ) {e : CallEnding} → running c ≡ false → e ≡ result_of (outcome_of (get_or c 7 0) (get_or c 8 0))
    → Answers t m c (record { next = N.Finish e; state = record { transfer = t; op = m; call = c }; bytes = padded [] })
answers_end t m c {e} z h = record {
  words = refl;
  tells = λ ws b. subst (λ (w : Wire). Tells w (N.Finish e) (padded []) (stands m ws b)) (sym (ends_tree t m c ws b z))
      (record { step = ap N.Finish h; hands = refl; memory = refl });
}

-- what stands for a tree and is answered steps
pub answered : {w : Wire} {own : Bool} {t m c room₀ words₀ room words b : List ℕ} (x : StepAnswer) → LentIn own w t m c room₀ words₀ room words b → Answers t m c x
    → Lent own w x room₀ words₀ room words b
answered {w} {own} {t} {m} {c} {room₀} {words₀} {room} {words} {b} x l a = record {
  steps = record {
    next = tells.step;
    bytes = tells.hands;
    memory = ap (λ (s : State). memory_of (remembered_of s.op) ws b) a.words ∙ tells.memory;
    tree = l.stand.tree ∙ ap (λ (s : State). state_tree s ws b) (sym a.words);
    counted = subst (λ (s : State). CountedIn (status_of s.call) s.transfer) (sym a.words) l.stand.counted;
  };
  other = l.other;
  whose = ap (λ (s : State). own_of s.call) a.words ∙ l.stand.whose;
}
  where
    ws : List ℕ
    ws = cond own words room

    tells : Tells w x.next x.bytes (stands m ws b)
    tells = subst (λ (w : Wire). Tells w x.next x.bytes (stands m ws b)) (sym l.stand.tree) (a.tells ws b)

pub stepped : {a : Answer} (s : State) {t m c room₀ words₀ b₀ room words b : List ℕ} (x : StepAnswer) → Fits s.transfer s.op → CallSized s.call
    → SteppedIn a s.transfer s.op s.call room₀ words₀ b₀ t m c room words b → Answers t m c x → Stepped s a x room₀ words₀ b₀ room words b
stepped s {t} {m} {c} x f z g a = record {
  lent = answered x (g.lent f z) a;
  stays = λ o h. let y = g.stays o h in a.words
      ∙ ap (λ (l : List ℕ). record { transfer = l; op = m; call = c }) y.0 ∙ ap (λ (l : List ℕ). record { transfer = s.transfer; op = l; call = c }) y.1
      ∙ ap (λ (l : List ℕ). record { transfer = s.transfer; op = s.op; call = l }) y.2;
}

pub started : {r : Remembered} {x : EngineCall} {m₀ room₀ words₀ b₀ t m c room words b : List ℕ} (y : StepAnswer) → Remembers r m₀
    → StartedIn x (replicate 7 0) m₀ (replicate 9 0) room₀ words₀ b₀ t m c room words b → Answers t m c y
    → Lent (lent x) (call_tree x r room₀ words₀ b₀) y room₀ words₀ room words b
started {r} {x} {m₀} {room₀} {words₀} {b₀} {room = room} {words} {b} y h g a =
    subst (λ (r : Remembered). Lent (lent x) (call_tree x r room₀ words₀ b₀) y room₀ words₀ room words b) h.is (answered y (g.lent (refl, h.sized) refl) a)

-- whether an answer is waited for
flight_awaited : (d : Mode) (m : Memory) (t : Transfer) (k : Outcome → Wire) → not (D.ignoring d) ≡ awaited (flight d m t k)
flight_awaited D.trying m t k = refl
flight_awaited D.aborting m t k = refl
flight_awaited D.raw m t k = refl

pub awaits_answer : (s : State) {x : Bool} → running s.call ≡ true → x ≡ D.ignoring (transfer_of s.transfer).mode
    → (ws b : List ℕ) → not x ≡ awaited (state_tree s ws b)
awaits_answer s z h ws b =
    ap not h ∙ flight_awaited (transfer_of s.transfer).mode (stands s.op ws b) (transfer_of s.transfer) _
    ∙ ap (λ (y : Bool). awaited (status_tree (status_as y (outcome_of (get_or s.call 7 0) (get_or s.call 8 0)))
    (flight_tree s.transfer s.op s.call ws b) (stands s.op ws b))) (sym z)

pub awaits_none : (s : State) → running s.call ≡ false → (ws b : List ℕ) → false ≡ awaited (state_tree s ws b)
awaits_none s z ws b =
    ap (λ (y : Bool). awaited (status_tree (status_as y (outcome_of (get_or s.call 7 0) (get_or s.call 8 0)))
    (flight_tree s.transfer s.op s.call ws b) (stands s.op ws b))) (sym z)

-- an even number says the same of a call, over the room
even_runs : (n : ℕ) → ltb (n - n % 2) 2 ≡ ltb n 2
even_runs n = by_runs (ltb n 2) refl
  where
    by_runs : (x : Bool) → ltb n 2 ≡ x → ltb (n - n % 2) 2 ≡ x
    by_runs true e = lt-ltb (n - n % 2) 2 (omega (arith, ltb-true n 2 e))
    by_runs false e = le-ltb (n - n % 2) 2 (omega (arith, ltb-false n 2 e))

even_own : (n : ℕ) → eqb ((n - n % 2) % 2) 1 ≡ false
even_own n = ne_eqb ((n - n % 2) % 2) 1 (λ q. omega (arith, q))

pub over_room_is : (t m c : List ℕ) → CallSized c
    → ((ws b : List ℕ) → words_tree t m (on_room c) ws b ≡ words_tree t m c ws b) × (own_of (on_room c) ≡ false)
over_room_is t m = by_words (λ c. ((ws b : List ℕ) → words_tree t m (on_room c) ws b ≡ words_tree t m c ws b) × (own_of (on_room c) ≡ false))
    (λ _ _ _ _ _ _ n _ _. ((λ ws b. rw (even_runs n) refl), even_own n))
