-- What holds of a tree over every line: at its end, and wherever its budget may run out. Serves the proofs only.
use Rattle.std.specs.Prelude.{ℕ, zero, suc, Bool, ◌||◌, List}
use Rattle.session_phase.specs.Laws.Phase.{or_more, or_none}
use Rattle.wire.specs.Wire.{Wire, Memory, done, ask, tell, play, Ending, ended, spent}
use Rattle.wire.specs.Outcomes.{Outcome}
use Rattle.target.specs.Line.{line}
use Rattle.target.specs.declared.Target.{Target}
use Rattle.target.specs.declared.Act.{Act}
use Rattle.target_line.specs.Talk.{talk, act_now, acts_then}
use Rattle.session_phase.specs.Phase.{loss}
use Rattle.session_calls.specs.Session.{lost_in}

-- of the memory, the target, its memory, and whether a transport call was lost
abbrev pub Stand : Type 1
Stand = Memory → Target → List ℕ → Bool → Type 0

abbrev pub Post : Type 1
Post = Outcome → Stand

-- Q at the end, S wherever a transport call is due
unfoldable pub Safe : Post → Stand → Wire → Target → List ℕ → Bool → Type 0
Safe Q S (done m o) t mem b = Q o m t mem b
Safe Q S (ask m c f) t mem b =
    S m t mem b
    × ((act : Act) → Safe Q S (f (line t mem c act).answer) (line t mem c act).target (line t mem c act).mem (b || loss
    (line t mem c act).answer))
Safe Q S (tell m c w) t mem b =
    S m t mem b × ((act : Act) → Safe Q S w (line t mem c act).target (line t mem c act).mem b)

abbrev pub Holds : Post → Stand → Ending → Stand
Holds Q S (ended o) = Q o
Holds Q S spent = S

-- what is safe holds over every line and budget
pub lives : (Q : Post) (S : Stand) (w : Wire) (n : ℕ) (acts : List Act) (t : Target) (mem : List ℕ) (b : Bool) → Safe Q S w t mem b
    → Holds Q S (play w (talk w n acts t mem).answers).ending (play w (talk w n acts t mem).answers).memory
    (talk w n acts t mem).target (talk w n acts t mem).mem (b || lost_in w (talk w n acts t mem).answers)
unfolding Safe play talk lost_in
lives Q S (done m o) n acts t mem b h = rw (or_none b) h
lives Q S (ask m c f) zero acts t mem b h = rw (or_none b) h.0
lives Q S (ask m c f) (suc n) acts t mem b h =
    rw (← or_more b (loss (line t mem c (act_now acts)).answer) _)
    (lives Q S (f (line t mem c (act_now acts)).answer) n (acts_then acts) (line t mem c (act_now acts)).target (line t mem c (act_now acts)).mem
    (b || loss (line t mem c (act_now acts)).answer) (h.1 (act_now acts)))
lives Q S (tell m c w) zero acts t mem b h = rw (or_none b) h.0
lives Q S (tell m c w) (suc n) acts t mem b h =
    lives Q S w n (acts_then acts) (line t mem c (act_now acts)).target (line t mem c (act_now acts)).mem b (h.1 (act_now acts))
