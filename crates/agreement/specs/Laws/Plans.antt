-- What holds of every plan whose jobs are sound: agreement, and where the ignored ABORT stands. One induction over plans, as there is one
-- over jobs. Serves the proofs only.
use Rattle.std.specs.Prelude.{ℕ, suc, Bool, true, false, cond, List, ◌≡◌, refl, Ok, Err}
use Rattle.wire.specs.Wire.{Wire, Memory, done, ask, tell}
use Rattle.wire.specs.declared.ArmError.{ArmError}
use Rattle.wire.specs.Outcomes.{Outcome}
use Rattle.wire_memap.specs.declared.Op.{Op}
use Rattle.wire_memap.specs.declared.Op.TheVariants as O
use Rattle.call.specs.Change.{changed}
use Rattle.call.specs.Job.{Job, ends, op, keep, exec, either}
use Rattle.target.specs.declared.Target.{Target}
use Rattle.session_calls.specs.Plan.{Plan, graft, plan_tree}
use Rattle.session_calls.specs.Plan as P
use Rattle.agreement.specs.Demand3.{is_transfer}
use Rattle.agreement.specs.Laws.Safe.{Post, Stand, Safe}
use Rattle.agreement.specs.Laws.Sound.{Stage, any, none, unsound, Admits, effect, effect_of, next, Sound, Sounds}
use Rattle.agreement.specs.Laws.Jobs.{Agreed, Ends, job_safe}
use Rattle.agreement.specs.Laws.Aborts.{Shaped, NoRaw, op_fine}

no_raw : (w : Op) (s : Stage) → Admits (effect w) s → NoRaw w
no_raw (O.DpRead addr) s h = tt
no_raw (O.DpWrite addr word) s h = tt
no_raw (O.ApRead addr) s h = tt
no_raw (O.ApWrite addr word) s h = tt
no_raw (O.ReadWord addr) s h = tt
no_raw (O.WriteWord addr word) s h = tt
no_raw (O.ReadWords addr n last) s h = tt
no_raw (O.WriteWords addr n last) s h = tt
no_raw (O.Other c) s h = go (is_transfer c) h
  where
    go : (b : Bool) → Admits (cond b unsound none) s → b ≡ false
    go true h = absurd h
    go false h = refl

either_shaped : (good : ℕ → Memory → Wire) (bad : ArmError → Memory → Wire) → ((v : ℕ) (m : Memory) → Shaped false (good v m))
    → ((e : ArmError) (m : Memory) → Shaped false (bad e m)) → (m : Memory) (o : Outcome) → Shaped false (either good bad m o)
either_shaped good bad g b m (Ok v) = g v m
either_shaped good bad g b m (Err e) = b e m

job_shaped : (j : Job) (s : Stage) → Sound j s → (m : Memory) → Shaped false (exec j m)
unfolding exec Shaped Sound
job_shaped (ends o) s h m = tt
job_shaped (op w good bad) s h m =
    op_fine w (no_raw w s h.0) (either (λ v. exec (good v)) (λ e. exec (bad e)))
    (either_shaped (λ v. exec (good v)) (λ e. exec (bad e)) (λ v. job_shaped (good v) (next (effect w) s) (h.1 v)) (λ e. job_shaped (bad e) any
    (h.2 e))) m
job_shaped (keep c j) s h m = job_shaped j (next (effect_of c) s) h.1 (changed c m)

-- what is safe up to its end, and goes on safely from there
graft_safe : (P Q : Post) (S : Stand) (k : ℕ → Memory → Outcome → Wire)
    → ((n : ℕ) (m : Memory) (o : Outcome) (t : Target) (mem : List ℕ) (b : Bool) → P o m t mem b → Safe Q S (k n m o) t mem b)
    → (n : ℕ) (w : Wire) (t : Target) (mem : List ℕ) (b : Bool) → Safe P S w t mem b → Safe Q S (graft n w k) t mem b
unfolding Safe graft
graft_safe P Q S k g n (done m o) t mem b h = g n m o t mem b h
graft_safe P Q S k g n (ask m c f) t mem b h = (h.0, λ act. graft_safe P Q S k g (suc n) (f _) _ _ _ (h.1 act))
graft_safe P Q S k g n (tell m c w) t mem b h = (h.0, λ act. graft_safe P Q S k g (suc n) w _ _ _ (h.1 act))

pub plan_safe : (p : Plan) → Sounds p → (n : ℕ) (m : Memory) (t : Target) (mem : List ℕ) (b : Bool) → Agreed m t mem b
    → Safe Ends Agreed (plan_tree p n m) t mem b
unfolding Sounds plan_tree Safe
plan_safe (P.ends o) h n m t mem b a = a
plan_safe (P.call j k) h n m t mem b a =
    graft_safe Ends Ends Agreed _ (λ n m o t mem b a. plan_safe (k n m o) (h.1 n m o) n m t mem b a) n (exec j m) t mem b
    (job_safe j h.0 m t mem b a)

graft_shaped : (k : ℕ → Memory → Outcome → Wire) → ((n : ℕ) (m : Memory) (o : Outcome) → Shaped false (k n m o))
    → (n : ℕ) (due : Bool) (w : Wire) → Shaped due w → Shaped due (graft n w k)
unfolding Shaped graft
graft_shaped k g n true (done m o) h = absurd h
graft_shaped k g n true (ask m c f) h = absurd h
graft_shaped k g n true (tell m c w) h = graft_shaped k g (suc n) false w h
graft_shaped k g n false (done m o) h = g n m o
graft_shaped k g n false (ask m c f) h = λ a. graft_shaped k g (suc n) _ (f a) (h a)
graft_shaped k g n false (tell m c w) h = absurd h

pub plan_shaped : (p : Plan) → Sounds p → (n : ℕ) (m : Memory) → Shaped false (plan_tree p n m)
unfolding Sounds plan_tree Shaped
plan_shaped (P.ends o) h n m = tt
plan_shaped (P.call j k) h n m = graft_shaped _ (λ n m o. plan_shaped (k n m o) (h.1 n m o) n m) n false (exec j m) (job_shaped j any h.0 m)
