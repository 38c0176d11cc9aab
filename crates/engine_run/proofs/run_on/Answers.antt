-- Each turn is one transport call of the run (`runs_turn`). It stops where the call has ended or no answer is left.
use mathlib.Core.Bool.{not}
use mathlib.Core.Path.{ap, ◌∙◌}
use Rattle.std.proofs.Common.{arith}
use Rattle.engine_run.specs.Laws.Runs.{runs_turn, still_running, never_running, stops_at_end}
use Rattle.engine_run.proofs.run_on.Goals as goal

pub returns-then-not-is_running : goal.returns-then-not-is_running
returns-then-not-is_running c = λ own w room₁ words₁ h.
    record { runs = c.loop-i.invariant.3 own w room₁ words₁ h; over = never_running _ _ c.is_running.ensures (ap not c.if-not-is_running.true) }

pub loop-i-preserved : goal.loop-i-preserved
loop-i-preserved c = (
  c.turn.auto.words ∙ c.loop-i.invariant.0,
  c.turn.auto.buf ∙ c.loop-i.invariant.1,
  c.turn.auto.log ∙ c.loop-i.invariant.2,
  λ own w room₁ words₁ h. runs_turn own w _ _ room₁ words₁ _ c.loop-i.i c.loop-i.t c.loop-i.m c.loop-i.c _ _ _ _
      (still_running _ _ c.is_running.ensures (ap not c.if-not-is_running.false)) c.loop-i-test.true c.requires c.turn.ensures
      (c.loop-i.invariant.3 own w room₁ words₁ h),
)

pub returns : goal.returns
returns c = λ own w room₁ words₁ h. stops_at_end own w _ _ room₁ words₁ _ c.loop-i.i c.loop-i.t c.loop-i.m c.loop-i.c _ _ _ _ (omega arith)
    (c.loop-i.invariant.3 own w room₁ words₁ h)
