-- Copyright 2026 Kenta Ida. SPDX-License-Identifier: Apache-2.0. Ported from arm-debug/src/lib.rs of ciniml/rust-dap.
-- The bootrom's table of functions, and a function called on the halted core (000: rom_func_lookup to finish_function).
-- Registers pass through the room: a frame stands in its places 0 to 7, and what a function starts with in 8 to 15.
use Rattle.std.specs.Prelude.{ℕ, zero, suc, ◌+◌, ◌-◌, ◌*◌, ◌/◌, ◌%◌, ◌^◌, cond, List, [], ◌∷◌, eqb, get_or}
use Rattle.wire.specs.declared.ArmError.TheVariants as E
use Rattle.wire.specs.Outcomes.{Outcome}
use Rattle.wire_memap.specs.declared.Op.TheVariants as O
use Rattle.call.specs.Job.{Job, ends, attempt, ◌>>=◌, ◌>>◌, return, fail, just, keeping, read_word_of, write_word}
use Rattle.call.specs.declared.Change.TheVariants as C
use Rattle.call_core.specs.Cortex.{DHCSR, DCRDR, DBGKEY, C_DEBUGEN, C_HALT, C_MASKINTS, S_HALT, stands, R0, SP, LR, PC, XPSR}
use Rattle.call_core.specs.Core.{debug_enable, wait_status, halt, resume, step, is_halted, read_core_reg, store_core_reg, write_core_reg}
use Rattle.call_core.specs.Frame.{starts_with, registers_of}
use Rattle.call_core.specs.declared.Function.{Function}
use Rattle.call_core.specs.declared.CallFrame.{CallFrame}
use Rattle.call_core.specs.declared.CoreCall.{CoreCall}
use Rattle.call_core.specs.declared.CoreCall.TheVariants as N

-- where the bootrom holds its 16-bit pointers; the low one is the table of functions (000: rp2040)
abbrev pub ROM_TABLE_PTRS : ℕ
ROM_TABLE_PTRS = 0x14

-- as many entries as are looked at; after them 01 has TableEnd, where the Rust goes on
abbrev pub ENTRIES : ℕ
ENTRIES = 16384

-- 01's value for a function that the table lacks
abbrev pub NOT_FOUND : ℕ
NOT_FOUND = 0xFFFFFFFF

-- the four bytes from byte `skip` of one word on, the rest of them in the word after it
abbrev pub joined : ℕ → ℕ → ℕ → ℕ
joined skip low high = low / 0x100 ^ skip + high % 0x100 ^ skip * 0x100 ^ (4 - skip)

-- Four bytes as read_mem reads them: a run of one word, which is what read_word makes, or parts of two words.
abbrev pub read_entry : ℕ → Job
read_entry entry = cond (eqb (entry % 4) 0) (read_word_of entry) (do
  low ← read_word_of (entry - entry % 4)
  high ← read_word_of (entry - entry % 4 + 4)
  return (joined (entry % 4) low high))

-- Each entry is a 16-bit code and a 16-bit address, and the table ends at code 0; n entries are left.
unfoldable pub look_from : ℕ → ℕ → ℕ → Job
look_from want table zero = fail E.TableEnd
look_from want table (suc n) = do
  entry ← read_entry (table + 4 * (ENTRIES - suc n))
  cond (eqb (entry % 0x10000) 0) (return NOT_FOUND) (cond (eqb (entry % 0x10000) want) (return (entry / 0x10000)) (look_from want table n))

-- a code is two letters
abbrev pub rom_func_lookup : ℕ → ℕ → Job
rom_func_lookup first second = do
  ptrs ← read_word_of ROM_TABLE_PTRS
  look_from (first + 0x100 * second) (ptrs % 0x10000) ENTRIES

-- The registers that a function may change, in the order of a frame (000: CallFrame). They are saved and restored, so that a debugger
-- that has set PC before it finds it there after it.
abbrev pub clobbered : List ℕ
clobbered = R0 ∷ 1 ∷ 2 ∷ 3 ∷ SP ∷ LR ∷ PC ∷ XPSR ∷ []

-- the last n registers of a frame, each to its place of the room
unfoldable pub save_regs : ℕ → Job
save_regs zero = return 0
save_regs (suc n) = do
  value ← read_core_reg (get_or clobbered (8 - suc n) 0)
  keeping (C.Put (8 - suc n) value)
  save_regs n

-- write_core_reg with the room's word at `place`: a run of one word is what write_word makes
abbrev pub write_row_reg : ℕ → ℕ → Job
write_row_reg reg place = do
  just (O.WriteWords DCRDR 1 place)
  store_core_reg reg

-- the last n registers of the frame that stands in the room from place `base` on
unfoldable pub write_regs : ℕ → ℕ → Job
write_regs base zero = return 0
write_regs base (suc n) = do
  write_row_reg (get_or clobbered (8 - suc n) 0) (base + (8 - suc n))
  write_regs base n

-- At most n reads of DHCSR, until the core runs. S_HALT may still stand for a moment after C_HALT is cleared, and a wait for the halt
-- would take that for the end of a function that never ran. A short one may be back at its BKPT before S_HALT is seen clear, so n is
-- small and its end is no error: the wait for the halt follows.
unfoldable pub look_running : ℕ → Job
look_running zero = return 0
look_running (suc n) = do
  v ← read_word_of DHCSR
  cond (stands S_HALT v) (look_running n) (return 0)

-- DHCSR while a function runs
abbrev pub MASKED : ℕ
MASKED = DBGKEY + C_DEBUGEN + C_MASKINTS

-- BKPT #0, twice
abbrev pub BKPT_TWICE : ℕ
BKPT_TWICE = 0xBE00BE00

-- The function returns to two BKPTs at the trampoline. C_MASKINTS may change only while the
-- core is halted.
abbrev pub start_function : Function → Job
start_function f = do
  keeping (C.Registers (starts_with f))
  save_regs 8
  write_word (f.trampoline - f.trampoline % 4) BKPT_TWICE
  write_regs 8 8
  write_word DHCSR (MASKED + C_HALT)
  write_word DHCSR MASKED
  look_running 64
  return 0

-- The core is halted and interrupts are unmasked whatever came of the wait; an error of those writes ends the call before
-- the wait's does. The value is r0 before it is restored.
abbrev pub after_wait : Outcome → Job
after_wait waited = do
  write_word DHCSR (MASKED + C_HALT)
  write_word DHCSR (DBGKEY + C_DEBUGEN + C_HALT)
  ends waited
  result ← read_core_reg R0
  write_regs 0 8
  return result

-- finish_function with the frame in its places
abbrev pub finishing : ℕ → Job
finishing polls = attempt (wait_status S_HALT polls) after_wait

abbrev pub finish_function : CallFrame → ℕ → Job
finish_function frame polls = do
  keeping (C.Frame (registers_of frame))
  finishing polls

-- start_function leaves the frame in its places
abbrev pub call_function : Function → ℕ → Job
call_function f polls = do
  start_function f
  finishing polls

-- calls 15 to 25
unfoldable pub core_job : CoreCall → Job
core_job N.DebugEnable = debug_enable
core_job N.Halt = halt
core_job N.Resume = resume
core_job N.Step = step
core_job N.IsHalted = is_halted
core_job (N.ReadCoreReg reg) = read_core_reg reg
core_job (N.WriteCoreReg reg value) = write_core_reg reg value
core_job (N.RomFuncLookup first second) = rom_func_lookup first second
core_job (N.StartFunction f) = start_function f
core_job (N.FinishFunction frame polls) = finish_function frame polls
core_job (N.CallFunction f polls) = call_function f polls
