-- Every call keeps what every call finds, whatever the line does. Serves the proofs only.
use Rattle.std.specs.Prelude.{ℕ, zero, suc, Bool, true, false, List, ◌≡◌, refl, Ok, Err}
use Rattle.std.proofs.lemmas.Bool.{false≢true}
use Rattle.std.proofs.Common.{ap}
use Rattle.wire.specs.Wire.{Wire, Memory, memory_of, done, ask, tell, play, Ending, ended, spent, succeeds}
use Rattle.target.specs.Line.{line}
use Rattle.target.specs.WellFormed.{WellFormed}
use Rattle.target.specs.Laws.WellFormed.{well_line}
use Rattle.target.specs.declared.Target.{Target}
use Rattle.target.specs.declared.Act.{Act}
use Rattle.target_line.specs.Talk.{Talk, talk, act_now, acts_then}
use Rattle.session_phase.specs.Phase.{remembered_for, connects, is_spent, opens_after}
use Rattle.session_phase.specs.declared.Kind.{Kind}
use Rattle.session_phase.specs.declared.Kind.TheVariants as K
use Rattle.session_rules.specs.Refusals.{Check}
use Rattle.session_calls.specs.Calls.{kind_of, is_connect}
use Rattle.session_calls.specs.Session.{plan_of, session_tree, lost_in, stands_after, check_of}
use Rattle.session_calls.specs.declared.SessionCall.{SessionCall}
use Rattle.agreement.specs.History.{Item, Moment, made, made_if}
use Rattle.agreement.specs.Laws.Safe.{Safe, Holds, lives}
use Rattle.agreement.specs.Laws.Kept.{Kept, admitted_open}
use Rattle.agreement.specs.Laws.Jobs.{Agreed, Ends, forgetful}
use Rattle.agreement.specs.Laws.Plans.{plan_safe}
use Rattle.agreement.specs.Laws.Calls.{plan_sound}

formed_talk : (w : Wire) (n : ℕ) (acts : List Act) (t : Target) (mem : List ℕ) → WellFormed t mem
    → WellFormed (talk w n acts t mem).target (talk w n acts t mem).mem
unfolding talk
formed_talk (done m o) n acts t mem h = h
formed_talk (ask m c f) zero acts t mem h = h
formed_talk (ask m c f) (suc n) acts t mem h =
    formed_talk (f (line t mem c (act_now acts)).answer) n (acts_then acts) _ _ (well_line t mem c (act_now acts) h)
formed_talk (tell m c w) zero acts t mem h = h
formed_talk (tell m c w) (suc n) acts t mem h = formed_talk w n (acts_then acts) _ _ (well_line t mem c (act_now acts) h)

-- a session that is open after a call has lost nothing
open_whole : (connect lost broken ok : Bool) → opens_after connect lost broken ok ≡ true → lost ≡ false
open_whole connect true broken ok h = absurd (false≢true h)
open_whole connect false broken ok h = refl

-- how the call finds the memory
starts : (x : Moment) (i : Item) → Kept x → check_of x.standing i.call i.lent ≡ (Ok tt)
    → Agreed (memory_of (remembered_for (kind_of i.call) x.standing.remembered) i.lent.room i.lent.buf) x.target x.mem false
starts x i k h = go (kind_of i.call) refl
  where
    go : (d : Kind) → kind_of i.call ≡ d
        → Agreed (memory_of (remembered_for d x.standing.remembered) i.lent.room i.lent.buf) x.target x.mem false
    go K.Connect e = record { port = k.port; agree = λ _. forgetful; rest = tt }
    go K.Plain e = record { port = k.port; agree = λ _. k.agree (admitted_open x.standing i.call i.lent h (ap connects e)); rest = tt }

-- however the tree ended, and wherever its budget ran out
holds_so : (e : Ending) (m : Memory) (t : Target) (mem : List ℕ) (b : Bool) → Holds Ends Agreed e m t mem b → Agreed m t mem b
holds_so (ended o) m t mem b h = h
holds_so spent m t mem b h = h

-- how a call that is not refused leaves session and target
abbrev leaving : SessionCall → Wire → Talk → Moment
leaving c w k = record { standing = stands_after c (lost_in w k.answers) (play w k.answers); target = k.target; mem = k.mem }

leaves_kept : (c : SessionCall) (w : Wire) (n : ℕ) (acts : List Act) (t : Target) (mem : List ℕ)
    → WellFormed t mem → Safe Ends Agreed w t mem false → Kept (leaving c w (talk w n acts t mem))
leaves_kept c w n acts t mem f h =
    let p = play w (talk w n acts t mem).answers in
    let a = holds_so p.ending _ _ _ _ (lives Ends Agreed w n acts t mem false h) in
    record { formed = formed_talk w n acts t mem f; port = a.port; agree = λ o. a.agree (open_whole (is_connect c) _ (is_spent p.ending) (succeeds p.ending) o) }

pub keeps : (x : Moment) (i : Item) (acts : List Act) → Kept x → Kept (made x i acts).after
keeps x i acts k = go (check_of x.standing i.call i.lent) refl
  where
    go : (v : Check) → check_of x.standing i.call i.lent ≡ v → Kept (made_if v x i acts).after
    go (Err e) h = k
    go (Ok tt) h =
        leaves_kept i.call (session_tree x.standing i.call i.lent) i.budget acts x.target x.mem k.formed
        (plan_safe (plan_of i.call i.lent) (plan_sound i.call i.lent) 0 _ _ _ false (starts x i k h))
