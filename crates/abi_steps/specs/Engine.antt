-- What an engine in the 64 words of another language answers to a start and to a step: its next transport call or ending in numbers, and the
-- bytes of a sequence.
use Rattle.std.specs.Prelude.{ℕ, Bool, true, false, List, [], ◌≡◌, length, drop}
use Rattle.wire.specs.Bytes.{handed, padded}
use Rattle.wire.specs.Outcomes.{Answer}
use Rattle.wire.specs.declared.Call.{Call}
use Rattle.wire_numbers.specs.Numbers.{numbers_of}
use Rattle.wire_memap.specs.Laws.Doing.{remembered_of}
use Rattle.engine_calls.specs.Calls.{lent, call_tree}
use Rattle.engine_calls.specs.declared.EngineCall.{EngineCall}
use Rattle.engine_words.specs.Status.{running}
use Rattle.engine.specs.Step as Engine
use Rattle.engine.specs.declared.NextStep.{NextStep}
use Rattle.wire_numbers.specs.declared.CallEnding.{CallEnding}
use Rattle.engine.specs.declared.StepAnswer.{StepAnswer}
use Rattle.session_calls.specs.Session.{Lent}
use Rattle.abi_words.specs.Words.{words_from, state_of}
use Rattle.abi_words.specs.Numbers.{due_numbers, end_numbers, step_numbers}

-- the transport call c is told
pub record Told (c : Call) (next bytes : List ℕ) : Type 0 where
  pub numbers : next ≡ due_numbers (numbers_of c)
  pub hands : bytes ≡ padded (handed c)

-- a caller's mistake is told, by its number
pub record Refuses (number : ℕ) (next bytes : List ℕ) : Type 0 where
  pub numbers : next ≡ end_numbers number 0 0
  pub hands : bytes ≡ padded []

-- and nothing is changed
pub record Unchanged (number : ℕ) (ws₀ : List ℕ) (l₀ : Lent) (ws next bytes : List ℕ) (l : Lent) : Type 0 where
  pub tells : Refuses number next bytes
  pub words : ws ≡ ws₀
  pub lent : l ≡ l₀

-- The engine in ws answers as P has it: what comes next is told in numbers; the words that are not its own are as in ws₀.
pub record EngineSays (P : StepAnswer → Type 0) (ws₀ ws next bytes : List ℕ) : Type 0 where
  pub said : NextStep CallEnding
  pub answers : P (record { next = said; state = state_of ws; bytes = bytes })
  pub numbers : next ≡ step_numbers said
  pub others : words_from 3 0 ws ≡ words_from 3 0 ws₀
  pub rest : drop 31 ws ≡ drop 31 ws₀
  pub sized : length ws ≡ 64

-- the start of the call x, on what the engine remembers
abbrev pub EngineStarted : EngineCall → List ℕ → Lent → List ℕ → List ℕ → List ℕ → Lent → Type 0
EngineStarted x ws₀ l₀ ws next bytes l =
    EngineSays (λ a. Engine.Lent (lent x) (call_tree x (remembered_of (words_from 12 10 ws₀)) l₀.room l₀.list l₀.buf) a
    l₀.room l₀.list l.room l.list l.buf) ws₀ ws next bytes

-- whether a call is under way in the words
abbrev pub under_way : List ℕ → Bool
under_way ws = running (words_from 9 22 ws)

-- a step with the answer a; with no call under way it is refused
pub record EngineStepped (a : Answer) (ws₀ : List ℕ) (l₀ : Lent) (ws next bytes : List ℕ) (l : Lent) : Type 0 where
  pub steps : under_way ws₀ ≡ true
      → EngineSays (λ x. Engine.Stepped (state_of ws₀) a x l₀.room l₀.list l₀.buf l.room l.list l.buf) ws₀ ws next bytes
  pub none : under_way ws₀ ≡ false → Unchanged 254 ws₀ l₀ ws next bytes l
