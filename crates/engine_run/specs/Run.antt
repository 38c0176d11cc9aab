-- A run of a call over a budget and a list of answers: what its report says (believed).
use Rattle.std.specs.Prelude.{ℕ, ◌≡◌, List, map, length, take}
use Rattle.std.proofs.lemmas.List.Edits.{sets}
use Rattle.wire.specs.Wire.{memory_of, Played}
use Rattle.wire.specs.declared.Call.{Call}
use Rattle.wire.specs.Outcomes.{Answer}
use Rattle.wire_numbers.specs.Results.{ending_of}
use Rattle.wire_numbers.specs.Log.{answer_of, code_of, call_of}
use Rattle.engine_calls.specs.Calls.{words_left, frame_left}
use Rattle.engine_calls.specs.declared.EngineCall.{EngineCall}
use Rattle.engine_run.specs.declared.Ran.{Ran}

-- The answers that a call gets: as many as the budget admits. They are what is left of the budget, so that fewer answers are a
-- smaller budget.
abbrev pub within : ℕ → List ℕ → List Answer
within budget xs = map answer_of (take budget xs)

-- the log l from place i on holds the calls cs; what does not fit is dropped
abbrev pub logged : List ℕ → ℕ → List Call → List ℕ
logged l i cs = sets l i (map code_of cs)

-- every call is what its number in the log says
abbrev pub Readable : List Call → Type 0
Readable cs = map call_of (map code_of cs) ≡ cs

-- r, the words ws, the buffer b and the log l report the run p; l₀ is the log before
pub record Reports (p : Played) (r : Ran) (ws b l₀ l : List ℕ) : Type 0 where
  pub count : r.count ≡ length p.calls
  pub ending : r.ending ≡ ending_of p.ending
  pub memory : memory_of r.remembered ws b ≡ p.memory
  pub log : l ≡ logged l₀ 0 p.calls
  pub readable : Readable p.calls

-- the same over what the caller lends: his frame and his words; frame₀ and words₀ were there before
pub record RanAs (c : EngineCall) (p : Played) (r : Ran) (frame₀ words₀ frame words b l₀ l : List ℕ) : Type 0 where
  pub count : r.count ≡ length p.calls
  pub ending : r.ending ≡ ending_of p.ending
  pub remembered : r.remembered ≡ p.memory.remembered
  pub framed : frame ≡ frame_left c p.ending p.memory.words frame₀
  pub lent : words ≡ words_left c p.memory.words words₀
  pub buf : b ≡ p.memory.buf
  pub log : l ≡ logged l₀ 0 p.calls
  pub readable : Readable p.calls
