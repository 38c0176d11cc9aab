-- The plans of every session call are sound. Serves the proofs only.
use Rattle.std.specs.Prelude.{ℕ, zero, suc, ◌+◌, ◌-◌, ◌*◌, ◌/◌, ◌%◌, Bool, true, false, eqb, leb, length, get_or, Option, None, Some}
use Rattle.wire.specs.declared.ArmError.{ArmError}
use Rattle.wire.specs.declared.ArmError.TheVariants as E
use Rattle.wire.specs.Outcomes.{Outcome}
use Rattle.call.specs.Job.{Job, ends, return, fail}
use Rattle.call.specs.declared.Change.TheVariants as C
use Rattle.call_connect.specs.Connect.{connect_job, accepted, set_up, no_target_of, both_acks, poll_acks}
use Rattle.call_connect.specs.declared.ConnectCall.TheVariants as N
use Rattle.call_memory.specs.Memory.{memory_job, turns, turn, moved, whole, move_words, move_part, run_words, part_bytes}
use Rattle.call_core.specs.Cortex.{R0, S_REGRDY, S_HALT, stands}
use Rattle.call_core.specs.Core.{POLLS, wait_status, read_core_reg, store_core_reg}
use Rattle.call_core.specs.Function.{core_job, ENTRIES, NOT_FOUND, read_entry, look_from, clobbered, save_regs, write_regs, write_row_reg}
use Rattle.call_core.specs.Function.{look_running, start_function, after_wait, finishing}
use Rattle.call_core.specs.declared.Function.{Function}
use Rattle.call_core.specs.declared.CoreCall.{CoreCall}
use Rattle.call_core.specs.declared.CoreCall.TheVariants as K
use Rattle.call_fpb.specs.Breakpoint.{fpb_job, yes, no, num_code, revision, fpb_comp_value, breakable, first_free, take_free, seek, find, look_up, clear}
use Rattle.call_fpb.specs.declared.FpbCall.{FpbCall}
use Rattle.call_fpb.specs.declared.FpbCall.TheVariants as B
use Rattle.engine_calls.specs.Calls.{job_of}
use Rattle.session_calls.specs.Calls.{engine_call}
use Rattle.session_calls.specs.Session.{Lent, plan_of}
use Rattle.session_calls.specs.declared.SessionCall.{SessionCall}
use Rattle.session_calls.specs.declared.SessionCall.TheVariants as S
use Rattle.agreement.specs.Laws.Sound.{any, Sound, Sounds, sound_attempt, sound_bind, sound_cond}

-- an operation whose error ends the call
step : {A : ℕ → Type 0} → ((v : ℕ) → A v) → Unit {0} × ((v : ℕ) → A v) × ((e : ArmError) → Unit {0})
step h = (tt, h, λ _. tt)

-- Call 3: SELECT is written while it is forgotten, and then remembered
polls_sound : (n : ℕ) → Sound (poll_acks n) any
unfolding Sound poll_acks
polls_sound zero = tt
polls_sound (suc n) = step λ v. sound_cond (both_acks v) (return 0) (poll_acks n) tt (polls_sound n)

set_up_sound : (dpidr : ℕ) → Sound (set_up C.New dpidr) any
unfolding Sound
set_up_sound dpidr = (tt, step λ _. step λ _. (tt, step λ _. sound_bind (poll_acks 1024) (λ _. return dpidr) (polls_sound 1024) (λ _. tt)))

connect_sound : Sound (connect_job N.ConnectSwd) any
unfolding Sound connect_job
connect_sound = step λ _. step λ _. step λ _. step λ _. step λ _. step λ _. step λ dpidr.
    sound_bind (accepted dpidr) (set_up C.New) (sound_cond (no_target_of dpidr) (fail E.NoTarget) (return dpidr) tt tt) set_up_sound

-- Calls 13 and 14
words_sound : (read : Bool) (a at n : ℕ) → Sound (move_words read a at n) any
unfolding Sound
words_sound true a at n = step λ _. (tt, tt)
words_sound false a at n = (tt, step λ _. tt)

part_sound : (read : Bool) (a at count : ℕ) → Sound (move_part read a at count) any
unfolding Sound
part_sound true a at count = step λ _. (tt, tt)
part_sound false a at count = step λ _. (tt, step λ _. tt)

mem_sound : (fuel : ℕ) (read : Bool) (stop len left : ℕ) → Sound (turns fuel read stop len left) any
unfolding Sound turns
mem_sound zero read stop len left = tt
mem_sound (suc fuel) read stop len left =
    let a = stop - left in
    sound_cond (eqb left 0) (return 0) _ tt (sound_bind (turn read a (len - left) left) (λ _. turns fuel read stop len (left - moved a left))
    (sound_cond (whole a left) _ _ (words_sound read a (len - left) (run_words a (left / 4))) (part_sound read a (len - left) (part_bytes a left)))
    (λ _. mem_sound fuel read stop len (left - moved a left)))

-- Calls 15 to 25
wait_sound : (bit n : ℕ) → Sound (wait_status bit n) any
unfolding Sound wait_status
wait_sound bit zero = tt
wait_sound bit (suc n) = step λ v. sound_cond (stands bit v) (return 0) (wait_status bit n) tt (wait_sound bit n)

read_reg_sound : (reg : ℕ) → Sound (read_core_reg reg) any
unfolding Sound
read_reg_sound reg = step λ _. sound_bind (wait_status S_REGRDY POLLS) _ (wait_sound S_REGRDY POLLS) (λ _. step λ _. tt)

store_reg_sound : (reg : ℕ) → Sound (store_core_reg reg) any
unfolding Sound
store_reg_sound reg = step λ _. wait_sound S_REGRDY POLLS

write_reg_sound : (reg place : ℕ) → Sound (write_row_reg reg place) any
unfolding Sound
write_reg_sound reg place = step λ _. store_reg_sound reg

entry_sound : (entry : ℕ) → Sound (read_entry entry) any
unfolding Sound
entry_sound entry = sound_cond (eqb (entry % 4) 0) _ _ (step λ _. tt) (step λ _. step λ _. tt)

look_sound : (want table n : ℕ) → Sound (look_from want table n) any
unfolding Sound look_from
look_sound want table zero = tt
look_sound want table (suc n) =
    sound_bind (read_entry (table + 4 * (ENTRIES - suc n))) _ (entry_sound (table + 4 * (ENTRIES - suc n)))
    (λ entry. sound_cond (eqb (entry % 0x10000) 0) (return NOT_FOUND) _ tt
    (sound_cond (eqb (entry % 0x10000) want) (return (entry / 0x10000)) (look_from want table n) tt (look_sound want table n)))

save_sound : (n : ℕ) → Sound (save_regs n) any
unfolding Sound save_regs
save_sound zero = tt
save_sound (suc n) =
    sound_bind (read_core_reg (get_or clobbered (8 - suc n) 0)) _ (read_reg_sound (get_or clobbered (8 - suc n) 0)) (λ _. (tt, save_sound n))

regs_sound : (base n : ℕ) → Sound (write_regs base n) any
unfolding Sound write_regs
regs_sound base zero = tt
regs_sound base (suc n) =
    sound_bind (write_row_reg (get_or clobbered (8 - suc n) 0) (base + (8 - suc n))) (λ _. write_regs base n)
    (write_reg_sound (get_or clobbered (8 - suc n) 0) (base + (8 - suc n))) (λ _. regs_sound base n)

running_sound : (n : ℕ) → Sound (look_running n) any
unfolding Sound look_running
running_sound zero = tt
running_sound (suc n) = step λ v. sound_cond (stands S_HALT v) (look_running n) (return 0) (running_sound n) tt

start_sound : (f : Function) → Sound (start_function f) any
unfolding Sound
start_sound f = (
  tt,
  sound_bind (save_regs 8) _ (save_sound 8) λ _. step λ _. sound_bind (write_regs 8 8) _ (regs_sound 8 8)
      λ _. step λ _. step λ _. sound_bind (look_running 64) (λ _. return 0) (running_sound 64) (λ _. tt),
)

after_wait_sound : (waited : Outcome) → Sound (after_wait waited) any
unfolding Sound
after_wait_sound waited =
    step λ _. step λ _. sound_bind (ends waited) _ tt
    (λ _. sound_bind (read_core_reg R0) _ (read_reg_sound R0) (λ result. sound_bind (write_regs 0 8) (λ _. return result) (regs_sound 0 8) (λ _. tt)))

finish_sound : (polls : ℕ) → Sound (finishing polls) any
finish_sound polls = sound_attempt (wait_status S_HALT polls) after_wait any (wait_sound S_HALT polls) after_wait_sound

core_sound : (c : CoreCall) → Sound (core_job c) any
unfolding Sound core_job
core_sound K.DebugEnable = step λ _. tt
core_sound K.Halt = step λ _. wait_sound S_HALT POLLS
core_sound K.Resume = step λ _. tt
core_sound K.Step = step λ _. wait_sound S_HALT POLLS
core_sound K.IsHalted = step λ _. tt
core_sound (K.ReadCoreReg reg) = read_reg_sound reg
core_sound (K.WriteCoreReg reg value) = step λ _. store_reg_sound reg
core_sound (K.RomFuncLookup first second) = step λ ptrs. look_sound _ (ptrs % 0x10000) ENTRIES
core_sound (K.StartFunction f) = start_sound f
core_sound (K.FinishFunction frame polls) = (tt, finish_sound polls)
core_sound (K.CallFunction f polls) = sound_bind (start_function f) (λ _. finishing polls) (start_sound f) (λ _. finish_sound polls)

-- Calls 26 to 28
take_sound : (value : ℕ) (free : Option ℕ) → Sound (take_free value free) any
unfolding Sound
take_sound value (Some i) = step λ _. tt
take_sound value None = tt

seek_sound : (value n left : ℕ) (free : Option ℕ) → Sound (seek value n left free) any
unfolding Sound seek
seek_sound value n zero free = take_sound value free
seek_sound value n (suc left) free =
    step λ comp. sound_cond (eqb comp value) yes _ tt (seek_sound value n left (first_free free (n - suc left) comp))

find_sound : (found : ℕ → Job) → ((i : ℕ) → Sound (found i) any) → (value n left : ℕ) → Sound (find found value n left) any
unfolding Sound find
find_sound found h value n zero = tt
find_sound found h value n (suc left) =
    step λ comp. sound_cond (eqb comp value) (found (n - suc left)) (find found value n left) (h (n - suc left)) (find_sound found h value n left)

breakable_sound : (c : Option ℕ) (next : ℕ → Job) → ((v : ℕ) → Sound (next v) any) → Sound (breakable c next) any
unfolding Sound
breakable_sound None next h = tt
breakable_sound (Some value) next h = h value

up_sound : (found : ℕ → Job) → ((i : ℕ) → Sound (found i) any) → (addr : ℕ) → Sound (look_up found addr) any
unfolding Sound
up_sound found h addr = step λ ctrl. breakable_sound (fpb_comp_value addr (revision ctrl)) _ (λ value. step λ v. find_sound found h value _ _)

fpb_sound : (c : FpbCall) → Sound (fpb_job c) any
unfolding Sound fpb_job
fpb_sound (B.HwBreakpointSet addr) =
    step λ ctrl. breakable_sound (fpb_comp_value addr (revision ctrl)) _ (λ value. sound_cond (eqb (num_code ctrl) 0) no _ tt
    (step λ _. seek_sound value (num_code ctrl) (num_code ctrl) None))
fpb_sound (B.HwBreakpointClear addr) = up_sound clear (λ i. step λ _. tt) addr
fpb_sound (B.HwBreakpointAt addr) = up_sound (λ _. yes) (λ i. tt) addr

call_sound : (c : SessionCall) (words bytes : ℕ) → Sound (job_of (engine_call c) words bytes) any
unfolding Sound memory_job
call_sound S.ConnectSwd words bytes = connect_sound
call_sound (S.ReadWord addr) words bytes = step λ _. tt
call_sound (S.WriteWord addr word) words bytes = step λ _. tt
call_sound (S.ReadMem addr) words bytes =
    sound_cond (leb 0x100000000 (addr + bytes)) (fail E.Range) _ tt (mem_sound bytes true (addr + bytes) bytes bytes)
call_sound (S.WriteMem addr) words bytes =
    sound_cond (leb 0x100000000 (addr + bytes)) (fail E.Range) _ tt (mem_sound bytes false (addr + bytes) bytes bytes)
call_sound (S.Core c) words bytes = core_sound c
call_sound (S.Fpb c) words bytes = fpb_sound c

-- each is one job
pub plan_sound : (c : SessionCall) (l : Lent) → Sounds (plan_of c l)
unfolding Sounds
plan_sound c l = (call_sound c (length l.list) (length l.buf), λ _ _ _. tt)
