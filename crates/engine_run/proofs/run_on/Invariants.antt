-- Each turn is one transport call of the run (`runs_turn`). It stops where the call has ended or no answer is left.
use Prim.Native.Nat.{ℕ}
use mathlib.Core.Bool.{Bool}
use mathlib.Core.List.{List}
use mathlib.Core.Path.{◌≡◌}
use lib.ListN.{length}
use Rattle.wire.specs.Wire.{Wire}
use Rattle.engine_words.specs.Laws.Step.{LentIn}
use Rattle.engine_run.specs.Laws.Runs.{Runs}
use Rattle.engine_run.proofs.run_on.Given as goal

abbrev pub invariant-loop-i : goal.invariant-loop-i
invariant-loop-i l = (length l.words ≡ length l.initial.words) × (length l.buf ≡ length l.initial.buf) × (length l.log ≡ length l.initial.log)
    × ((own : Bool) (w : Wire) (room₁ words₁ : List ℕ) → LentIn own w l.initial.t l.initial.m l.initial.c room₁ words₁ l.initial.room l.initial.words l.initial.buf
    → Runs own w l.limit l.answers room₁ words₁ l.initial.log l.i l.t l.m l.c l.room l.words l.buf l.log)
