-- The calls that read and write one word. Serves the proofs only.
use Prim.Native.Nat.{ℕ, zero, suc, ◌+◌, ◌-◌, ◌*◌, ◌%◌, ◌≤◌, ◌<◌}
use Rattle.std.specs.Prelude.{false, ◌≡◌, refl, length, get_or, Ok, Err}
use Rattle.std.proofs.Common.{ap, arith}
use mathlib.Core.List.{List}
use Rattle.wire.specs.Bytes.{le_bytes, put_word}
use Rattle.wire.specs.Wire.{Memory}
use Rattle.wire_memap.specs.Ops.{perform}
use Rattle.call.specs.Job.{either, exec, return, fail, read_word_of, write_word}
use Rattle.target.specs.declared.Target.{Target}
use Rattle.agreement.specs.Laws.Safe.{Post, Safe}
use Rattle.agreement.specs.Laws.Progress.{Progress, Next, progress_none, progress_put}
use Rattle.agreement.specs.Laws.Got.{Held}
use Rattle.agreement.proofs.Push.{Plans}
use Rattle.session_calls.specs.Session.{ROOM}
use Rattle.agreement.proofs.Runs.{Idle, idle_keeps, read_one, write_one}
use Rattle.agreement.proofs.ReadTurns.{ReadSpent, read_stops}
use Rattle.agreement.proofs.WriteTurns.{Partly, WriteSpent, WriteEnds, write_stops}

-- a success has the word
abbrev pub WordEnds : ℕ → List ℕ → ℕ → Post
WordEnds base old addr (Ok v) m t mem b = ReadSpent base old m t mem b × Held base old addr v
WordEnds base old addr (Err e) m t mem b = ReadSpent base old m t mem b

module _ (base : ℕ) (old : List ℕ) (addr : ℕ) (z : addr % 4 ≡ 0) (m : Memory) (t : Target) (i : Idle base m t) where
  pub word_read : Safe (WordEnds base old addr) (ReadSpent base old) (exec (read_word_of addr) m) t old false
  unfolding exec perform Safe
  word_read =
      (read_one base addr ROOM m.words m.buf old (read_stops base old) i.size z (omega arith)).runs
      (record { value = λ v f. ((f.running.poised.start, f.same), f.held); fails = λ e k. k.rest })
      (idle_keeps i refl)

  pub word_written : (w : ℕ)
      → Safe (WriteEnds base old addr (le_bytes w)) (WriteSpent base old addr (le_bytes w)) (exec (write_word addr w) m) t old false
  unfolding exec perform Safe
  word_written w =
      (write_one base addr m.words m.buf old (Partly base old addr (le_bytes w)) (write_stops base old addr (le_bytes w)) (λ (_ : ℕ). w) Plan plans
      (progress_none base old addr (le_bytes w))).runs {k = either (λ v. exec (return v)) (λ e. exec (fail e))}
      (record { value = λ v f. (f.running.poised.start, f.end); fails = λ e k. k.rest })
      (idle_keeps i refl)
    where
      Plan : ℕ → List ℕ → Type 0
      Plan j y = Progress base old addr (le_bytes w) (4 * j) y

      next : (y : List ℕ) → base ≤ addr → addr + 4 ≤ base + length y → Next base addr (le_bytes w) 0 4 y (addr - base) w
      next y l h = record {
        some = omega arith;
        low = omega arith;
        high = omega arith;
        enough = omega arith;
        room = omega arith;
        news = λ i x a b. let e : i ≡ base + (addr - base) + i - addr = omega arith in ap (λ (j : ℕ). get_or (le_bytes w) j 0) e;
        under = λ i x a. absurd (omega arith);
        over = λ i x a. absurd (omega arith);
      }

      step : (j : ℕ) (y : List ℕ) → j < 1 → base ≤ addr + 4 * j → addr + 4 * j + 4 ≤ base + length y → Plan j y
          → Plan (suc j) (put_word y (addr + 4 * j - base) w)
      step (suc j) y x l h g = absurd (omega arith)
      step zero y x l h g =
          let e : addr + 4 * 0 - base ≡ addr - base = omega arith in
          rw e (progress_put base old addr (le_bytes w) 0 4 y (addr - base) w g (next y (omega arith) (omega arith)))

      plans : Plans base addr 1 (λ (_ : ℕ). w) (Partly base old addr (le_bytes w)) Plan
      plans = record { whole = z; fits = omega arith; holds = λ j y g. (4 * j, g); step = step }
