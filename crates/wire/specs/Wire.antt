-- A call of the engine as a tree of transport calls that continues by the answer, and what a list of answers makes of it.
-- `ask` is a transport call whose answer decides how the call goes on. `tell` is the ABORT whose answer is ignored.
-- Every node holds the memory that stands at that moment, so that it is known wherever the budget ends.
use Rattle.std.specs.Prelude.{ℕ, Bool, true, false, List, [], ◌∷◌, Ok, Err}
use Rattle.wire.specs.declared.Call.{Call}
use Rattle.wire.specs.Outcomes.{Answer}
use Rattle.wire.specs.Outcomes.{Outcome}
use Rattle.wire.specs.declared.Remembered.{Remembered}

-- what the engine remembers, the words of a run, the caller's buffer
pub record Memory : Type 0 where
  pub remembered : Remembered
  pub words : List ℕ
  pub buf : List ℕ

abbrev pub memory_of : Remembered → List ℕ → List ℕ → Memory
memory_of r ws b = record { remembered = r; words = ws; buf = b }

pub data Wire : Type 0 where
  done : Memory → Outcome → Wire
  ask : Memory → Call → (Answer → Wire) → Wire
  tell : Memory → Call → Wire → Wire

abbrev pub follow : Wire → Answer → Wire
follow (done m o) a = done m o
follow (ask m c f) a = f a
follow (tell m c w) a = w

-- how a call ends under a budget; Spent is 01's word for a budget that did not suffice
pub data Ending : Type 0 where
  ended : Outcome → Ending
  spent : Ending

abbrev pub succeeds : Ending → Bool
succeeds (ended (Ok v)) = true
succeeds (ended (Err e)) = false
succeeds spent = false

pub record Played : Type 0 where
  pub calls : List Call
  pub memory : Memory
  pub ending : Ending

abbrev pub made : Call → Played → Played
made c p = record { calls = c ∷ p.calls; memory = p.memory; ending = p.ending }

-- The transport calls that a list of answers makes of a tree. The budget is the list's length: Spent comes exactly
-- where a transport call is due and no answer is left.
unfoldable pub play : Wire → List Answer → Played
play (done m o) answers = record { calls = []; memory = m; ending = ended o }
play (ask m c f) [] = record { calls = []; memory = m; ending = spent }
play (ask m c f) (a ∷ rest) = made c (play (f a) rest)
play (tell m c w) [] = record { calls = []; memory = m; ending = spent }
play (tell m c w) (a ∷ rest) = made c (play w rest)
