-- A call over target and line: what its engine hears, and the target and memory afterwards. With these answers `play` says the
-- rest: the transport calls, the ending, the engine's memory and the buffers.
use Rattle.std.specs.Prelude.{ℕ, zero, suc, List, [], ◌∷◌}
use Rattle.wire.specs.Wire.{Wire, done, ask, tell}
use Rattle.wire.specs.Outcomes.{Answer}
use Rattle.target.specs.Line.{line}
use Rattle.target.specs.declared.Target.{Target}
use Rattle.target.specs.declared.Act.{Act}
use Rattle.target.specs.declared.Act.TheVariants.{Deliver}

pub record Talk : Type 0 where
  pub answers : List Answer
  pub target : Target
  pub mem : List ℕ

abbrev pub silent : Target → List ℕ → Talk
silent t mem = record { answers = []; target = t; mem = mem }

abbrev pub heard_first : Answer → Talk → Talk
heard_first a k = record { answers = a ∷ k.answers; target = k.target; mem = k.mem }

-- what the line does now and then; where the list has ended it delivers
abbrev pub act_now : List Act → Act
act_now [] = Deliver
act_now (a ∷ acts) = a

abbrev pub acts_then : List Act → List Act
acts_then [] = []
acts_then (a ∷ acts) = acts

-- at most n transport calls of a tree
unfoldable pub talk : Wire → ℕ → List Act → Target → List ℕ → Talk
talk (done m o) n acts t mem = silent t mem
talk (ask m c f) zero acts t mem = silent t mem
talk (ask m c f) (suc n) acts t mem =
    let h = line t mem c (act_now acts) in heard_first h.answer (talk (f h.answer) n (acts_then acts) h.target h.mem)
talk (tell m c w) zero acts t mem = silent t mem
talk (tell m c w) (suc n) acts t mem =
    let h = line t mem c (act_now acts) in heard_first h.answer (talk w n (acts_then acts) h.target h.mem)
