-- What a step has to answer: the next transport call or the ending in numbers, the bytes handed over, and what stands by then.
use Rattle.std.specs.Prelude.{ℕ, Bool, true, false, cond, List, [], ◌≡◌}
use Rattle.wire.specs.Bytes.{handed, padded}
use Rattle.wire.specs.Wire.{Wire, Memory, memory_of, done, ask, tell, follow}
use Rattle.wire.specs.Outcomes.{Answer}
use Rattle.wire.specs.Outcomes.{Outcome}
use Rattle.wire_numbers.specs.Results.{result_of}
use Rattle.wire_numbers.specs.Numbers.{numbers_of}
use Rattle.wire_numbers.specs.declared.CallEnding.{CallEnding}
use Rattle.wire_memap.specs.Laws.Doing.{remembered_of}
use Rattle.engine_words.specs.Status.{Ended, status_of, own_of, CountedIn}
use Rattle.engine.specs.Laws.State.{state_tree}
use Rattle.engine.specs.declared.NextStep.{NextStep}
use Rattle.engine.specs.declared.NextStep.TheVariants as N
use Rattle.engine.specs.declared.State.{State}
use Rattle.engine.specs.declared.StepAnswer.{StepAnswer}

-- what comes next in a tree: a transport call, or how the call ended
abbrev pub next_of : Wire → NextStep CallEnding
next_of (done m o) = N.Finish (result_of o)
next_of (ask m c f) = N.Make (numbers_of c)
next_of (tell m c w) = N.Make (numbers_of c)

-- the bytes that are handed over with it
abbrev pub bytes_of : Wire → List ℕ
bytes_of (done m o) = []
bytes_of (ask m c f) = handed c
bytes_of (tell m c w) = handed c

-- what stands in a tree at this moment
abbrev pub memory_in : Wire → Memory
memory_in (done m o) = m
memory_in (ask m c f) = m
memory_in (tell m c w) = m

-- whether the answer decides how the call goes on: that of an ABORT is ignored
abbrev pub awaited : Wire → Bool
awaited (done m o) = false
awaited (ask m c f) = true
awaited (tell m c w) = false

-- The answer a reports the tree w: what comes next, its bytes, what is remembered, the words ws and the buffer b; and its state
-- stands for w, with a count of tries of at most 65.
pub record Steps (w : Wire) (a : StepAnswer) (ws b : List ℕ) : Type 0 where
  pub next : a.next ≡ next_of w
  pub bytes : a.bytes ≡ padded (bytes_of w)
  pub memory : memory_of (remembered_of a.state.op) ws b ≡ memory_in w
  pub tree : w ≡ state_tree a.state ws b
  pub counted : CountedIn (status_of a.state.call) a.state.transfer

-- The same over a room and the caller's words, of which `own` says which one the call runs over; the other is unchanged.
pub record Lent (own : Bool) (w : Wire) (a : StepAnswer) (room₀ words₀ room words buf : List ℕ) : Type 0 where
  pub steps : Steps w a (cond own words room) buf
  pub other : cond own room words ≡ cond own room₀ words₀
  pub whose : own_of a.state.call ≡ own

-- A step from the state s. The tree of a call that has ended goes on as itself (`follow`): the same ending, no transport call, words
-- and buffer as they were; and the state stays.
pub record Stepped (s : State) (a : Answer) (x : StepAnswer) (room₀ words₀ buf₀ room words buf : List ℕ) : Type 0 where
  pub lent : Lent (own_of s.call) (follow (state_tree s (cond (own_of s.call) words₀ room₀) buf₀) a) x room₀ words₀ room words buf
  pub stays : (o : Outcome) → status_of s.call ≡ Ended o → x.state ≡ s
