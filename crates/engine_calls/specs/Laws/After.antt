-- What a call asks for after the operation in flight. Serves the proofs only.
use Rattle.std.specs.Prelude.{ℕ, ◌+◌, ◌*◌, ◌/◌, ◌%◌, List, [], ◌∷◌, ◌≡◌, get_or, Ok, Err}
use Rattle.std.proofs.Common.{ap, sym, ◌∙◌, arith}
use Rattle.wire.specs.Wire.{Memory}
use Rattle.wire.specs.Outcomes.{Outcome}
use Rattle.call.specs.Change.{changed}
use Rattle.call.specs.Job.{Job, ends, exec}
use Rattle.call.specs.Laws.Asks.{asks, next_job, exec_keep}
use Rattle.call.specs.declared.Asks.{Asks}
use Rattle.call_at.specs.declared.At.{At}
use Rattle.call_connect.specs.Laws.After as Connect
use Rattle.call_memory.specs.Laws.After as Mem
use Rattle.call_places.specs.Laws.Core.{core_at_of}
use Rattle.call_places.specs.Laws.Fpb.{fpb_at_of}
use Rattle.call_places.specs.Laws.Nrf.{nrf_at_of}
use Rattle.call_core.specs.Laws.After as Core
use Rattle.call_fpb.specs.Laws.After as Fpb
use Rattle.call_nrf.specs.Laws.After as Nrf

-- the groups, as `step` has them by 1024
abbrev pub groups : At → Outcome → List Job
groups at o = Mem.memory_after at o ∷ Connect.connect_after at o ∷ Core.core_after at o ∷ Fpb.fpb_after at o ∷ []

abbrev pub by_group : ℕ → At → Outcome → Job
by_group group at o = get_or (groups at o) group (Nrf.nrf_after at o)

-- what follows the operation in flight
abbrev pub call_after : At → Outcome → Job
call_after at = by_group (at.step / 1024) at

abbrev pub asks_job : Asks → Job
asks_job r = asks r.change r.next (call_after r.at)

-- at step 0 the operation's outcome is the call's
pub whole_after : (at : At) (o : Outcome) → at.step ≡ 0 → call_after at o ≡ ends o
whole_after at (Ok v) h = simp h
whole_after at (Err e) h = simp h

-- the numbers of a call in flight, with its group
abbrev pub in_group : ℕ → At → At
in_group group at = record { step = 1024 * group + at.step % 1024; a = at.a; b = at.b; c = at.c; d = at.d; e = at.e }

group_is : (group n : ℕ) → (1024 * group + n % 1024) / 1024 ≡ group
group_is group n = omega arith

-- what is below a group's number stays
by_8 : (group n : ℕ) → (1024 * group + n % 1024) % 8 ≡ n % 8
by_8 group n = omega arith

by_32 : (group n : ℕ) → (1024 * group + n % 1024) % 32 ≡ n % 32
by_32 group n = omega arith

eighths : (group n : ℕ) → (1024 * group + n % 1024) / 8 % 8 ≡ n / 8 % 8
eighths group n = omega arith

flash_step : (group n : ℕ) → (1024 * group + n % 1024) / 8 % 4 ≡ n / 8 % 4
flash_step group n = omega arith

flash_chip : (group n : ℕ) → (1024 * group + n % 1024) / 64 % 2 ≡ n / 64 % 2
flash_chip group n = omega arith

flash_then : (group n : ℕ) → (1024 * group + n % 1024) / 256 % 4 ≡ n / 256 % 4
flash_then group n = omega arith

-- so that the numbers mean what their group gave them for
memory_same : (at : At) → Mem.memory_at_of (in_group 0 at) ≡ Mem.memory_at_of at
memory_same at = simp (by_32 0 at.step)

pub memory_in_lem : (at : At) → call_after (in_group 0 at) ≡ Mem.memory_after at
memory_in_lem at = ap (λ (k : ℕ). by_group k (in_group 0 at)) (group_is 0 at.step) ∙ ap Mem.phase_after (memory_same at)

connect_same : (at : At) → Connect.connect_at_of (in_group 1 at) ≡ Connect.connect_at_of at
connect_same at = simp (by_32 1 at.step)

pub connect_in : (at : At) → call_after (in_group 1 at) ≡ Connect.connect_after at
connect_in at = ap (λ (k : ℕ). by_group k (in_group 1 at)) (group_is 1 at.step) ∙ ap Connect.phase_after (connect_same at)

core_same : (at : At) → core_at_of (in_group 2 at) ≡ core_at_of at
core_same at = simp (by_8 2 at.step, eighths 2 at.step)

pub core_in : (at : At) → call_after (in_group 2 at) ≡ Core.core_after at
core_in at = ap (λ (k : ℕ). by_group k (in_group 2 at)) (group_is 2 at.step) ∙ ap Core.phase_after (core_same at)

fpb_same : (at : At) → fpb_at_of (in_group 3 at) ≡ fpb_at_of at
fpb_same at = simp (by_32 3 at.step)

pub fpb_in : (at : At) → call_after (in_group 3 at) ≡ Fpb.fpb_after at
fpb_in at = ap (λ (k : ℕ). by_group k (in_group 3 at)) (group_is 3 at.step) ∙ ap Fpb.phase_after (fpb_same at)

nrf_same : (at : At) → nrf_at_of (in_group 4 at) ≡ nrf_at_of at
nrf_same at = simp (by_8 4 at.step, flash_step 4 at.step, flash_chip 4 at.step, flash_then 4 at.step)

pub nrf_in : (at : At) → call_after (in_group 4 at) ≡ Nrf.nrf_after at
nrf_in at = ap (λ (k : ℕ). by_group k (in_group 4 at)) (group_is 4 at.step) ∙ ap Nrf.phase_after (nrf_same at)

-- what a group asks for, with the group in its numbers, is what the call asks for
pub handed : (group : ℕ) (k : At → Outcome → Job) → ((at : At) → call_after (in_group group at) ≡ k at) → (q r : Asks)
    → (r.change ≡ q.change) × (r.next ≡ q.next) × (r.at ≡ in_group group q.at) → asks q.change q.next (k q.at) ≡ asks_job r
handed group k same q r h = rw (h.0, h.1, h.2) (ap (asks q.change q.next) (sym (same q.at)))

-- a change, and then what comes next
pub asks_next : (a : Asks) (m m₂ : Memory) → changed a.change m ≡ m₂ → exec (asks_job a) m ≡ exec (next_job a.next (call_after a.at)) m₂
asks_next a m m₂ h = exec_keep a.change (next_job a.next (call_after a.at)) m ∙ ap (exec (next_job a.next (call_after a.at))) h
