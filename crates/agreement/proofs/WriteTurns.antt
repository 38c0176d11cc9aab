-- Memory writes: every turn takes the write further, and wherever it stops so many of the new bytes stand in memory. Serves the proofs only.
use Prim.Native.Nat.{ℕ, zero, suc, ◌+◌, ◌-◌, ◌*◌, ◌%◌, ◌≤◌, ◌<◌}
use Rattle.std.specs.Prelude.{false, ◌≡◌, length, get_or, drop, Ok, Err}
use Rattle.std.proofs.Math.Path.{refl}
use Rattle.std.proofs.Common.{ap, ◌∙◌, arith, length-set, get_or-set_same}
use mathlib.Core.List.{List}
use Rattle.std.proofs.Math.ListN.{set}
use Rattle.wire.specs.Bytes.{put_word, le_word}
use Rattle.wire.specs.Wire.{Memory}
use Rattle.wire_memap.specs.Ops.{perform}
use Rattle.call_bytes.specs.Bytes.{load_words, patch_word}
use Rattle.call.specs.Job.{Job, exec, return, keep, just, ◌>>◌}
use Rattle.call.specs.declared.Change.TheVariants as C
use Rattle.wire_memap.specs.declared.Op.TheVariants as O
use Rattle.call_memory.specs.Memory.{mem_from}
use Rattle.call_memory.specs.Laws.Turns.{move_run, move_bytes}
use Rattle.target.specs.declared.Target.{Target}
use Rattle.agreement.specs.Demand3.{Bytes}
use Rattle.agreement.specs.Laws.Safe.{Stand, Post, Safe}
use Rattle.agreement.specs.Laws.Transfer.{Stops}
use Rattle.agreement.specs.Laws.Ports.{Keeps, rest_of, stops}
use Rattle.agreement.specs.Laws.Progress.{Progress, progress_put, progress_bytes}
use Rattle.agreement.specs.Laws.Rows.{loaded_size, loaded_at, word_drop}
use Rattle.agreement.specs.Laws.Got.{Held, next_word, next_part}
use Rattle.agreement.specs.Laws.Drw.{InKiB}
use Rattle.agreement.specs.Laws.EachTurn.{EachTurn, all_turns}
use Rattle.agreement.specs.Laws.Running.{Stays}
use Rattle.agreement.proofs.Push.{Plans, Wrote}
use Rattle.agreement.proofs.Pull.{Same, OneRead}
use Rattle.session_calls.specs.Session.{ROOM}
use Rattle.agreement.proofs.Runs.{Idle, idle_keeps, idle_after, write_run, read_one}

-- some of the new bytes stand in memory
abbrev pub Partly : ℕ → List ℕ → ℕ → List ℕ → List ℕ → Type 0
Partly base old addr new mem = (k : ℕ) × Progress base old addr new k mem

-- `k` of them do, and the buffer is the caller's
pub record WriteAt (base : ℕ) (old : List ℕ) (addr : ℕ) (new : List ℕ) (k : ℕ) (m : Memory) (t : Target) (mem : List ℕ) : Type 0 where
  pub idle : Idle base m t
  pub buffer : m.buf ≡ new
  pub progress : Progress base old addr new k mem

abbrev pub WriteSpent : ℕ → List ℕ → ℕ → List ℕ → Stand
WriteSpent base old addr new m t mem b = Stays base (Partly base old addr new) (rest_of m t mem)

-- after a success all of them do
abbrev pub WriteEnds : ℕ → List ℕ → ℕ → List ℕ → Post
WriteEnds base old addr new (Ok v) m t mem b = (t.base ≡ base) × Progress base old addr new (length new) mem
WriteEnds base old addr new (Err e) m t mem b = WriteSpent base old addr new m t mem b

pub write_stops : (base : ℕ) (old : List ℕ) (addr : ℕ) (new : List ℕ)
    → Stops (WriteSpent base old addr new) (Keeps (Stays base (Partly base old addr new)))
write_stops base old addr new = stops (λ m t mem b k. k.rest)

-- the plan of a word that is patched: at first the memory as it was read, and then P
abbrev Patching : List ℕ → (List ℕ → Type 0) → ℕ → List ℕ → Type 0
Patching mem P zero y = y ≡ mem
Patching mem P (suc j) y = P y

module _ (base : ℕ) (old : List ℕ) (addr : ℕ) (new : List ℕ) (bo : Bytes old) (bn : Bytes new) where
  abbrev Q : Post
  Q = WriteEnds base old addr new

  abbrev S : Stand
  S = WriteSpent base old addr new

  abbrev N : List ℕ → Type 0
  N = Partly base old addr new

  abbrev Leads : Job → ℕ → Type 0
  Leads j k = (m : Memory) (t : Target) (mem : List ℕ) → WriteAt base old addr new k m t mem → Safe Q S (exec j m) t mem false

  ended : Leads (return 0) (length new)
  unfolding exec Safe
  ended m t mem x = (x.idle.start, x.progress)

  -- a turn that moves n words
  write_words_lem : (a at n : ℕ) (next : ℕ → Job) → a ≡ addr + at → a % 4 ≡ 0 → InKiB a n → 0 < n → n ≤ 64 → at + 4 * n ≤ length new
      → Leads (next (4 * n)) (at + 4 * n) → Leads (move_run false a at n next) at
  unfolding exec perform Safe
  write_words_lem a at n next e z fits some room l after m t mem x =
      (write_run base a row m.buf mem N (write_stops base old addr new) n word Plan plans begins (λ _. refl) some).runs
      (record { value = λ v w. after _ _ _ (written _ _ _ w); fails = λ e k. k.rest })
      (idle_keeps loaded refl)
    where
      row : List ℕ
      row = load_words n (drop at m.buf) m.words

      word : ℕ → ℕ
      word j = get_or row j 0

      Plan : ℕ → List ℕ → Type 0
      Plan j y = Progress base old addr new (at + 4 * j) y

      begins : Plan 0 mem
      begins = let f : at + 4 * 0 ≡ at = omega arith in rw f x.progress

      loaded : Idle base (record { remembered = m.remembered; words = row; buf = m.buf }) t
      loaded = record {
        port = x.idle.port;
        agree = x.idle.agree;
        size = loaded_size n (drop at m.buf) m.words ∙ x.idle.size;
        width = x.idle.width;
        start = x.idle.start;
      }

      named : (j : ℕ) → j < n → word j ≡ le_word new (at + 4 * j)
      named j h =
          loaded_at n (drop at m.buf) m.words (omega (arith, x.idle.size)) j h
          ∙ word_drop at m.buf (4 * j) ∙ ap (λ (b : List ℕ). le_word b (at + 4 * j)) x.buffer

      step : (j : ℕ) (y : List ℕ) → j < n → base ≤ a + 4 * j → a + 4 * j + 4 ≤ base + length y → Plan j y
          → Plan (suc j) (put_word y (a + 4 * j - base) (word j))
      step j y h low high g =
          let f : at + 4 * suc j ≡ at + 4 * j + 4 = omega arith in
          let i : a + 4 * j - base ≡ addr + (at + 4 * j) - base = omega arith in
          rw (f, i) (progress_put base old addr new (at + 4 * j) 4 y (addr + (at + 4 * j) - base) (word j) g
          (next_word base addr y new (at + 4 * j) (at + 4 * j) (word j) bn refl (named j h) (omega arith) (omega arith) (omega arith)))

      plans : Plans base a n word N Plan
      plans = record { whole = z; fits = fits; holds = λ j y g. (at + 4 * j, g); step = step }

      written : (m' : Memory) (t' : Target) (mem' : List ℕ) → Wrote base row m.buf (Plan n) m' t' mem'
          → WriteAt base old addr new (at + 4 * n) m' t' mem'
      written m' t' mem' w = record {
        idle = idle_after w.running (ap length w.words ∙ loaded.size);
        buffer = w.running.buffer ∙ x.buffer;
        progress = w.end;
      }

  -- A turn that moves `count` bytes: the word v that holds a was read, and is patched and written back.
  module _ (a at count : ℕ) (next : ℕ → Job) (e : a ≡ addr + at) (p : 0 < count) (c : a % 4 + count ≤ 4) (l : at + count ≤ length new)
      (after : Leads (next count) (at + count)) (mem : List ℕ) (g : Progress base old addr new at mem) where
    abbrev low : ℕ
    low = a - a % 4

    abbrev Plan : ℕ → List ℕ → Type 0
    Plan = Patching mem (Progress base old addr new (at + count))

    plan_holds : (j : ℕ) (y : List ℕ) → Plan j y → N y
    plan_holds zero y h = (at, rw h g)
    plan_holds (suc j) y h = (at + count, h)

    module _ (v : ℕ) (held : Held base mem low v) (word : ℕ → ℕ) (named : word 0 ≡ patch_word count v (a % 4) (drop at new)) where
      patch_step : (j : ℕ) (y : List ℕ) → j < 1 → base ≤ low + 4 * j → low + 4 * j + 4 ≤ base + length y → Plan j y
          → Plan (suc j) (put_word y (low + 4 * j - base) (word j))
      patch_step (suc j) y h x z q = absurd (omega arith)
      patch_step zero y h x z q =
          let f : low + 4 * 0 - base ≡ addr + at - a % 4 - base = omega arith in
          rw (q, f, named) (progress_put base old addr new at count mem (addr + at - a % 4 - base) (patch_word count v (a % 4) (drop at new)) g
          (next_part base addr mem new at (a % 4) count v (progress_bytes bo bn g) bn p (omega arith) c l (rw (← e) held)))

      patch_plans : Plans base low 1 word N Plan
      patch_plans = record { whole = omega arith; fits = omega arith; holds = plan_holds; step = patch_step }

    write_patched : (v : ℕ) {buf : List ℕ} (m : Memory) (t : Target) (y : List ℕ) → m.buf ≡ new → OneRead base low mem buf ROOM v m t y
        → Safe Q S (exec (keep (C.Patch at (a % 4) count v) (just (O.WriteWords low 1 0) >> next count)) m) t y false
    unfolding exec perform Safe
    write_patched v m t y b x =
        (write_run base low row m.buf mem N (write_stops base old addr new) 1 word Plan (patch_plans v x.held word named)
        refl (λ _. refl) (omega arith)).runs
        (record { value = λ u w. after _ _ _ (written _ _ _ w); fails = λ u k. k.rest })
        (idle_keeps patched x.same)
      where
        row : List ℕ
        row = set m.words 0 (patch_word count v (a % 4) (drop at m.buf))

        word : ℕ → ℕ
        word j = get_or row j 0

        named : word 0 ≡ patch_word count v (a % 4) (drop at new)
        named = get_or-set_same m.words 0 _ 0 (omega (arith, x.sized)) ∙ ap (λ (z : List ℕ). patch_word count v (a % 4) (drop at z)) b

        sized : length row ≡ ROOM
        sized = length-set m.words 0 _ ∙ x.sized

        patched : Idle base (record { remembered = m.remembered; words = row; buf = m.buf }) t
        patched = idle_after x.running sized

        written : (m' : Memory) (t' : Target) (y' : List ℕ) → Wrote base row m.buf (Plan 1) m' t' y'
            → WriteAt base old addr new (at + count) m' t' y'
        written m' t' y' w = record {
          idle = idle_after w.running (ap length w.words ∙ sized);
          buffer = w.running.buffer ∙ b;
          progress = w.end;
        }

  write_bytes : (a at count : ℕ) (next : ℕ → Job) → a ≡ addr + at → 0 < count → a % 4 + count ≤ 4 → at + count ≤ length new
      → Leads (next count) (at + count) → Leads (move_bytes false a at count next) at
  unfolding exec perform Safe
  write_bytes a at count next e p c l after m t mem x =
      (read_one base (a - a % 4) ROOM m.words m.buf mem halts x.idle.size (omega arith) (omega arith)).runs
      (record {
        value = λ v f. write_patched a at count next e p c l after mem x.progress v _ _ _ (f.running.buffer ∙ x.buffer) f;
        fails = λ u k. (k.rest.0, (at, rw k.rest.1 x.progress));
      })
      (idle_keeps x.idle refl)
    where
      halts : Stops S (Keeps (Stays base (Same mem)))
      halts = stops (λ _ _ _ _ k. (k.rest.0, (at, rw k.rest.1 x.progress)))

  -- all turns
  pub write_mem : Leads (mem_from false (addr + length new) (length new) (length new)) 0
  write_mem = all_turns each
    where
      each : EachTurn false addr (length new) Leads
      each = record { none = ended; words = write_words_lem; bytes = write_bytes }
