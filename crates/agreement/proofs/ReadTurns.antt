-- Memory reads: every turn gets more of the target's bytes, and the memory stays. Serves the proofs only.
use Rattle.std.specs.Prelude.{ℕ, ◌+◌, ◌-◌, ◌*◌, ◌%◌, ◌≤◌, ◌<◌, true, false, ◌≡◌, length, drop, Ok, Err}
use Rattle.std.proofs.Common.{◌∙◌, arith}
use mathlib.Core.List.{List}
use Rattle.wire.specs.Wire.{Memory}
use Rattle.wire_memap.specs.Ops.{perform}
use Rattle.call.specs.Change.{changed}
use Rattle.call.specs.declared.Change.TheVariants as C
use Rattle.call.specs.Job.{Job, exec, return}
use Rattle.call_memory.specs.Memory.{mem_from}
use Rattle.call_memory.specs.Laws.Turns.{move_run, move_bytes}
use Rattle.target.specs.declared.Target.{Target}
use Rattle.agreement.specs.Demand3.{Bytes}
use Rattle.agreement.specs.Laws.Safe.{Stand, Post, Safe}
use Rattle.agreement.specs.Laws.Transfer.{Stops}
use Rattle.agreement.specs.Laws.Ports.{Keeps, rest_of, stops}
use Rattle.agreement.specs.Laws.Rows.{stored_size, part_size, from_size}
use Rattle.agreement.specs.Laws.Got.{Got, got_run, got_part}
use Rattle.agreement.specs.Laws.Drw.{InKiB}
use Rattle.agreement.specs.Laws.EachTurn.{EachTurn, all_turns}
use Rattle.agreement.specs.Laws.Running.{Stays}
use Rattle.agreement.proofs.Pull.{Same, Filled, OneRead}
use Rattle.session_calls.specs.Session.{ROOM}
use Rattle.agreement.proofs.Runs.{Idle, idle_keeps, idle_after, read_run, read_one}

-- `k` of the bytes from `addr` on are in the buffer, which has `len` places
pub record ReadAt (base : ℕ) (old : List ℕ) (addr len k : ℕ) (m : Memory) (t : Target) (mem : List ℕ) : Type 0 where
  pub idle : Idle base m t
  pub same : mem ≡ old
  pub sized : length m.buf ≡ len
  pub got : Got base old addr m.buf k

-- the memory stays
abbrev pub ReadSpent : ℕ → List ℕ → Stand
ReadSpent base old m t mem b = Stays base (Same old) (rest_of m t mem)

-- and a success has got all
abbrev pub ReadEnds : ℕ → List ℕ → ℕ → ℕ → Post
ReadEnds base old addr len (Ok v) m t mem b = ReadSpent base old m t mem b × (length m.buf ≡ len) × Got base old addr m.buf len
ReadEnds base old addr len (Err e) m t mem b = ReadSpent base old m t mem b

pub read_stops : (base : ℕ) (old : List ℕ) → Stops (ReadSpent base old) (Keeps (Stays base (Same old)))
read_stops base old = stops (λ m t mem b k. k.rest)

module _ (base : ℕ) (old : List ℕ) (addr len : ℕ) (bytes : Bytes old) where
  abbrev Q : Post
  Q = ReadEnds base old addr len

  abbrev S : Stand
  S = ReadSpent base old

  abbrev Leads : Job → ℕ → Type 0
  Leads j k = (m : Memory) (t : Target) (mem : List ℕ) → ReadAt base old addr len k m t mem → Safe Q S (exec j m) t mem false

  ended : Leads (return 0) len
  unfolding exec Safe
  ended m t mem x = ((x.idle.start, x.same), x.sized, x.got)

  -- a turn that moves n words
  read_words_lem : (a at n : ℕ) (next : ℕ → Job) → a ≡ addr + at → a % 4 ≡ 0 → InKiB a n → 0 < n → n ≤ 64 → at + 4 * n ≤ len
      → Leads (next (4 * n)) (at + 4 * n) → Leads (move_run true a at n next) at
  unfolding exec perform Safe
  read_words_lem a at n next e z fits some room l after m t mem x =
      (read_run base a ROOM m.words m.buf old (read_stops base old) x.idle.size z n (omega arith) fits some).runs
      (record { value = λ v f. after _ _ _ (stored _ _ _ f); fails = λ e k. k.rest })
      (idle_keeps x.idle x.same)
    where
      stored : (m' : Memory) (t' : Target) (mem' : List ℕ) → Filled base a old m.buf ROOM n m' t' mem'
          → ReadAt base old addr len (at + 4 * n) (changed (C.StoreWords at n) m') t' mem'
      stored m' t' mem' f = record {
        idle = idle_after f.running f.sized;
        same = f.same;
        sized = rw f.running.buffer (from_size at m.buf _ (omega (arith, x.sized)) (stored_size n m'.words (drop at m.buf)) ∙ x.sized);
        got = rw f.running.buffer (got_run base old bytes addr m.buf at x.got n m'.words (rw (← e) f.row) (omega (arith, x.sized)));
      }

  -- a turn that moves `count` bytes of one word
  read_bytes : (a at count : ℕ) (next : ℕ → Job) → a ≡ addr + at → 0 < count → a % 4 + count ≤ 4 → at + count ≤ len
      → Leads (next count) (at + count) → Leads (move_bytes true a at count next) at
  unfolding exec perform Safe
  read_bytes a at count next e p c l after m t mem x =
      (read_one base (a - a % 4) ROOM m.words m.buf old (read_stops base old) x.idle.size (omega arith) (omega arith)).runs
      (record { value = λ v f. after _ _ _ (stored v _ _ _ f); fails = λ e k. k.rest })
      (idle_keeps x.idle x.same)
    where
      stored : (v : ℕ) (m' : Memory) (t' : Target) (mem' : List ℕ) → OneRead base (a - a % 4) old m.buf ROOM v m' t' mem'
          → ReadAt base old addr len (at + count) (changed (C.StorePart at (a % 4) count v) m') t' mem'
      stored v m' t' mem' f = record {
        idle = idle_after f.running f.sized;
        same = f.same;
        sized = rw f.running.buffer (from_size at m.buf _ (omega (arith, x.sized)) (part_size count v (a % 4) (drop at m.buf)) ∙ x.sized);
        got = rw f.running.buffer
            (got_part base old bytes addr m.buf at x.got (a % 4) count v (omega arith) c (rw (← e) f.held) (omega (arith, x.sized)));
      }

  -- all turns
  pub read_mem : Leads (mem_from true (addr + len) len len) 0
  read_mem = all_turns each
    where
      each : EachTurn true addr len Leads
      each = record { none = ended; words = read_words_lem; bytes = read_bytes }
