-- A start and a step in words that are lent, with what they answer: whether a transport call is due. Serves the proofs only.
use Rattle.std.specs.Prelude.{ℕ, Bool, true, List, ◌≡◌}
use Rattle.std.proofs.Common.{sym, subst, ◌∙◌}
use Rattle.wire.specs.Outcomes.{Answer}
use Rattle.wire.specs.declared.Remembered.{Remembered}
use Rattle.wire_memap.specs.Laws.Doing.{OpSized, Remembers}
use Rattle.wire_memap.specs.Laws.Flight.{Fits}
use Rattle.wire_numbers.specs.Log.{answer_of}
use Rattle.call.specs.Change.{fresh}
use Rattle.engine_calls.specs.Calls.{lent, call_tree}
use Rattle.engine_calls.specs.declared.EngineCall.{EngineCall}
use Rattle.engine_words.specs.Status.{running}
use Rattle.engine_words.specs.Laws.State.{CallSized}
use Rattle.engine_words.specs.Laws.Step.{LentIn, StartedIn, SteppedIn, TriesIn, stepped_from}

-- the call x is started on a new engine
pub record BegunIn (x : EngineCall) (r : Bool) (t₀ m₀ c₀ room₀ words₀ b₀ t m c room words b : List ℕ) : Type 0 where
  pub call : Fits t₀ m₀ → CallSized c₀ → LentIn (lent x) (call_tree x fresh room₀ words₀ b₀) t m c room₀ words₀ room words b
  pub due : r ≡ running c

pub begun_in : (x : EngineCall) {y : EngineCall} {n : Remembered} {r : Bool} (t₀ m₀ c₀ room₀ words₀ b₀ : List ℕ) {m₁ t m c room words b : List ℕ} → y ≡ x → n ≡ fresh
    → (OpSized m₀ → Remembers n m₁) → StartedIn y t₀ m₁ c₀ room₀ words₀ b₀ t m c room words b → r ≡ running c
    → BegunIn x r t₀ m₀ c₀ room₀ words₀ b₀ t m c room words b
begun_in x {y} t₀ m₀ c₀ room₀ words₀ b₀ {m₁} {t} {m} {c} {room} {words} {b} e n h g d = record {
  call = λ f s. let k = h f.1 in
      subst (λ (y : EngineCall). LentIn (lent y) (call_tree y fresh room₀ words₀ b₀) t m c room₀ words₀ room words b) e
      (subst (λ (q : Remembered). LentIn (lent y) (call_tree y q room₀ words₀ b₀) t m c room₀ words₀ room words b) (k.is ∙ n)
      (g.lent (f.0, k.sized) s));
  due = d;
}

-- a step with the answer that the number x stands for
pub record SteppedBy (x : ℕ) (r : Bool) (t₀ m₀ c₀ room₀ words₀ b₀ t m c room words b : List ℕ) : Type 0 where
  pub step : SteppedIn (answer_of x) t₀ m₀ c₀ room₀ words₀ b₀ t m c room words b
  pub due : r ≡ running c

pub stepped_at_once : (x : ℕ) (t₀ m₀ c room₀ words b : List ℕ) {r : Bool} {t m room : List ℕ} → TriesIn (answer_of x) r t₀ m₀ c room₀ t m room → r ≡ true
    → SteppedBy x true t₀ m₀ c room₀ words b t m c room words b
stepped_at_once x t₀ m₀ c room₀ words b g e = record { step = g.moved e words b; due = sym (g.goes e) }

pub stepped_by : (x : ℕ) (t₀ m₀ c₀ room₀ words₀ b₀ : List ℕ) {r : Bool} {a : Answer} {t₁ m₁ room₁ t m c room words b : List ℕ}
    → (t₁ ≡ t₀) × (m₁ ≡ m₀) × (room₁ ≡ room₀) → a ≡ answer_of x → SteppedIn a t₁ m₁ c₀ room₁ words₀ b₀ t m c room words b → r ≡ running c
    → SteppedBy x r t₀ m₀ c₀ room₀ words₀ b₀ t m c room words b
stepped_by x t₀ m₀ c₀ room₀ words₀ b₀ {t = t} {m} {c} {room} {words} {b} e h g d = record {
  step = subst (λ (a : Answer). SteppedIn a t₀ m₀ c₀ room₀ words₀ b₀ t m c room words b) h (stepped_from _ t₀ m₀ c₀ room₀ words₀ b₀ e g);
  due = d;
}
