-- A session's call as a plan: jobs of the engine one after the other, under one budget. What follows a job finds how many transport
-- calls were made so far, what stands by then (what is remembered, the room, the caller's buffer) and the job's outcome. The calls that
-- are the engine's own are plans of one job.
use Rattle.std.specs.Prelude.{ℕ, suc}
use Rattle.wire.specs.Wire.{Wire, Memory, done, ask, tell}
use Rattle.wire.specs.Outcomes.{Outcome}
use Rattle.call.specs.Job.{Job, exec}

pub data Plan : Type 0 where
  ends : Outcome → Plan
  call : Job → (ℕ → Memory → Outcome → Plan) → Plan

-- one job, whose outcome is the call's
abbrev pub alone : Job → Plan
alone j = call j (λ _ _ o. ends o)

-- the tree w, and at its end k goes on: n transport calls were made before w
unfoldable pub graft : ℕ → Wire → (ℕ → Memory → Outcome → Wire) → Wire
graft n (done m o) k = k n m o
graft n (ask m c f) k = ask m c (λ a. graft (suc n) (f a) k)
graft n (tell m c w) k = tell m c (graft (suc n) w k)

-- the tree of a plan, n transport calls made and m standing
unfoldable pub plan_tree : Plan → ℕ → Memory → Wire
plan_tree (ends o) n m = done m o
plan_tree (call j k) n m = graft n (exec j m) (λ n m o. plan_tree (k n m o) n m)
