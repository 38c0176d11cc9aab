-- Runs of words and single words over the line: the set_up_lem of CSW and TAR, and then the words. Serves the proofs only.
use Rattle.std.specs.Prelude.{ℕ, suc, ◌+◌, ◌-◌, ◌*◌, ◌%◌, ◌≤◌, ◌<◌, Bool, false, ◌≡◌, refl, List, eqb, length, get_or}
use Rattle.std.proofs.Common.{sym, ◌∙◌, arith, eqb-true}
use Rattle.wire.specs.Wire.{Memory}
use Rattle.wire_memap.specs.Action.{Action, ◌>>◌}
use Rattle.wire_memap.specs.Ports.{TAR, CSW_DEFAULT, ensure_csw, ap_write}
use Rattle.wire_memap.specs.Words.{read_word_of, write_word, read_words, write_words}
use Rattle.target.specs.declared.Target.{Target}
use Rattle.session_calls.specs.Session.{ROOM}
use Rattle.agreement.specs.Demand3.{Agree}
use Rattle.agreement.specs.Laws.Safe.{Stand, Post}
use Rattle.agreement.specs.Laws.Transfer.{Spot, Stops, Triple, Implies, chooses, binds, from}
use Rattle.agreement.specs.Laws.Ports.{Rest, Keeps, Keeping, Ready, stops, ensures, tars, select_zero}
use Rattle.agreement.specs.Laws.Drw.{InKiB}
use Rattle.agreement.specs.Laws.Running.{Stays, Running}
use Rattle.agreement.proofs.Push.{Plans, Pushed, going, Wrote, push_one, push_all_lem}
use Rattle.agreement.proofs.Pull.{Same, Aimed, Filled, OneRead, pull_first, pull_rest, pull_one}

-- what a set_up_lem leaves alone
pub record Fixed (base : ℕ) (row buf mem : List ℕ) (r : Rest) : Type 0 where
  pub words : r.words ≡ row
  pub buffer : r.buf ≡ buf
  pub width : 10 ≤ r.width
  pub start : r.base ≡ base
  pub same : r.mem ≡ mem

-- between two operations: agreement, and a room of words
pub record Idle (base : ℕ) (m : Memory) (t : Target) : Type 0 where
  pub port : m.remembered.apsel ≡ 0
  pub agree : Agree m.remembered t
  pub size : length m.words ≡ ROOM
  pub width : 10 ≤ t.width
  pub start : t.base ≡ base

pub idle_keeps : {base : ℕ} {m : Memory} {t : Target} {mem old : List ℕ} → Idle base m t → mem ≡ old
    → Keeps (Fixed base m.words m.buf old) m t mem false
idle_keeps i e = record {
  port = i.port;
  agree = λ _. i.agree;
  rest = record { words = refl; buffer = refl; width = i.width; start = i.start; same = e };
}

-- after a run, with any words and any buffer
pub idle_after : {base : ℕ} {buf ws b : List ℕ} {m : Memory} {t : Target} → Running base buf m t → length ws ≡ ROOM
    → Idle base (record { remembered = m.remembered; words = ws; buf = b }) t
idle_after r s = record {
  port = r.port;
  agree = record { select = λ _. r.poised.select ∙ sym r.select; csw = λ _. r.poised.csw };
  size = s;
  width = r.poised.width;
  start = r.poised.start;
}

-- CSW and TAR stand
pub record Prepared (base a : ℕ) (row buf old : List ℕ) (m : Memory) (t : Target) (mem : List ℕ) : Type 0 where
  pub running : Running base buf m t
  pub words : m.words ≡ row
  pub same : mem ≡ old
  pub tar : t.tar ≡ a

prepared : {base a : ℕ} {row buf old : List ℕ} → Implies (Ready (Fixed base row buf old) false a) (Prepared base a row buf old)
prepared m t mem r = record {
  running = record {
    port = r.keeps.port;
    select = r.select;
    buffer = r.keeps.rest.buffer;
    poised = record {
      select = select_zero (r.keeps.agree refl) r.select;
      csw = (r.keeps.agree refl).csw r.csw;
      width = r.keeps.rest.width;
      start = r.keeps.rest.start;
    };
  };
  words = r.keeps.rest.words;
  same = r.keeps.rest.same;
  tar = r.tar refl;
}

-- a run begins
begun : {base a : ℕ} {row buf old : List ℕ} {N : List ℕ → Type 0} {Plan : ℕ → List ℕ → Type 0} → Plan 0 old → (more : ℕ)
    → Implies (Prepared base a row buf old) (Pushed base a row buf N Plan more 0)
begun {a} begins more m t mem p = let e : a ≡ a + 4 * 0 = omega arith in going p.running p.words (λ _. p.tar ∙ e) (rw p.same begins)

aimed : {base a size : ℕ} {row buf old : List ℕ} → length row ≡ size → Implies (Prepared base a row buf old) (Aimed base a old buf size)
aimed sized m t mem p = record { running = p.running; tar = p.tar; same = p.same; sized = rw p.words sized }

-- a claim on less of the rest
wider : {M M' : Rest → Type 0} → ((r : Rest) → M r → M' r) → {m : Memory} {t : Target} {mem : List ℕ} {b : Bool}
    → Keeps M m t mem b → Keeps M' m t mem b
wider h k = record { port = k.port; agree = k.agree; rest = h _ k.rest }

widen : {Q : Post} {S : Stand} {b : Bool} {P : Spot} {G : ℕ → Spot} {x : Action} {M M' : Rest → Type 0} → ((r : Rest) → M r → M' r)
    → Triple Q S (Keeps M) b P x G → Triple Q S (Keeps M') b P x G
widen h x = record { runs = λ f p. x.runs (record { value = f.value; fails = λ e k. f.fails e (wider h k) }) p }

-- what an action that finds row, buffer and memory so comes to, or N of the memory wherever it stops
abbrev Does : Post → Stand → ℕ → List ℕ → List ℕ → List ℕ → (List ℕ → Type 0) → Action → (ℕ → Spot) → Type 0
Does Q S base row buf old N x G = Triple Q S (Keeps (Stays base N)) false (Keeping (Fixed base row buf old) false) x G

module _ {Q : Post} {S : Stand} (base a : ℕ) (row buf old : List ℕ) (N : List ℕ → Type 0) (st : Stops S (Keeps (Stays base N))) where
  -- CSW, TAR, and then x
  set_up_lem : N old → {x : Action} {G : ℕ → Spot} → Triple Q S (Keeps (Stays base N)) false (Prepared base a row buf old) x G
      → Does Q S base row buf old N (ensure_csw CSW_DEFAULT >> (ap_write TAR a >> x)) G
  set_up_lem n x = binds (widen less (ensures st₀)) (λ _. binds (widen less (tars st₀ a)) (λ _. from prepared x))
    where
      less : (r : Rest) → Fixed base row buf old r → Stays base N r
      less r f = (f.start, rw f.same n)

      st₀ : Stops S (Keeps (Fixed base row buf old))
      st₀ = stops (λ _ _ _ _ k. st.spends (wider less k))

  module _ (n : ℕ) (word : ℕ → ℕ) (Plan : ℕ → List ℕ → Type 0) (plans : Plans base a n word N Plan) (begins : Plan 0 old) where
    -- a run is written
    pub write_run : ((j : ℕ) → word j ≡ get_or row j 0) → 0 < n
        → Does Q S base row buf old N (write_words a n (n - 1)) (λ _. Wrote base row buf (Plan n))
    write_run named some =
        set_up_lem (plans.holds _ _ begins)
        (from (begun begins (suc (n - 1))) (push_all_lem base a n word row buf N Plan plans st named (n - 1) (omega arith)))

  -- one word is written
  pub write_one : (word : ℕ → ℕ) (Plan : ℕ → List ℕ → Type 0) → Plans base a 1 word N Plan → Plan 0 old
      → Does Q S base row buf old N (write_word a (word 0)) (λ _. Wrote base row buf (Plan 1))
  write_one word Plan plans begins = set_up_lem (plans.holds _ _ begins) (from (begun begins 1) (push_one base a 1 word row buf N Plan plans st refl))

module _ {Q : Post} {S : Stand} (base a size : ℕ) (row buf old : List ℕ) (st : Stops S (Keeps (Stays base (Same old))))
    (sized : length row ≡ size) (whole : a % 4 ≡ 0) where
  -- a run is read
  pub read_run : (n : ℕ) → n ≤ size → InKiB a n → 0 < n
      → Does Q S base row buf old (Same old) (read_words a n (n - 1)) (λ _. Filled base a old buf size n)
  read_run n room fits some =
      set_up_lem base a row buf old (Same old) st refl
      (chooses (eqb n 0) (λ e. absurd (omega (arith, eqb-true n 0 e)))
      (λ _. from (aimed sized) (binds (pull_first base a n old buf size room whole fits st some)
      (λ _. pull_rest base a n old buf size room whole fits st (n - 1) (n - 1) 0 (omega arith) (omega arith)))))

  -- one word is read
  pub read_one : 1 ≤ size → Does Q S base row buf old (Same old) (read_word_of a) (λ v. OneRead base a old buf size v)
  read_one room =
      set_up_lem base a row buf old (Same old) st refl
      (from (aimed sized) (binds (pull_first base a 1 old buf size room whole (omega arith) st (omega arith))
      (λ _. pull_one base a 1 old buf size room whole (omega arith) st)))
