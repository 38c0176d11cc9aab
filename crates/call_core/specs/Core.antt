-- Copyright 2026 Kenta Ida. SPDX-License-Identifier: Apache-2.0. Ported from arm-debug/src/lib.rs of ciniml/rust-dap.
-- The core's run state and its registers (000: debug_enable to write_core_reg).
use Rattle.std.specs.Prelude.{ℕ, zero, suc, ◌+◌, cond}
use Rattle.wire.specs.declared.ArmError.TheVariants as E
use Rattle.call.specs.Job.{Job, ◌>>=◌, ◌>>◌, return, fail, read_word_of, write_word}
use Rattle.call_core.specs.Cortex.{
  DHCSR,
  DCRSR,
  DCRDR,
  DBGKEY,
  C_DEBUGEN,
  C_HALT,
  C_STEP,
  C_MASKINTS,
  S_REGRDY,
  S_HALT,
  status,
  stands,
  DCRSR_REGWNR,
}

abbrev pub debug_enable : Job
debug_enable = write_word DHCSR (DBGKEY + C_DEBUGEN)

-- how often wait_status reads DHCSR
abbrev pub POLLS : ℕ
POLLS = 4096

-- at most n reads of DHCSR, until the bit stands (000: wait_status_n)
unfoldable pub wait_status : ℕ → ℕ → Job
wait_status bit zero = fail E.CoreTimeout
wait_status bit (suc n) = do
  v ← read_word_of DHCSR
  cond (stands bit v) (return 0) (wait_status bit n)

abbrev pub halt : Job
halt = do
  write_word DHCSR (DBGKEY + C_DEBUGEN + C_HALT)
  wait_status S_HALT POLLS

abbrev pub resume : Job
resume = write_word DHCSR (DBGKEY + C_DEBUGEN)

-- with interrupts masked
abbrev pub step : Job
step = do
  write_word DHCSR (DBGKEY + C_DEBUGEN + C_MASKINTS + C_STEP)
  wait_status S_HALT POLLS

-- yes is 1
abbrev pub is_halted : Job
is_halted = do
  v ← read_word_of DHCSR
  return (status S_HALT v)

abbrev pub read_core_reg : ℕ → Job
read_core_reg reg = do
  write_word DCRSR reg
  wait_status S_REGRDY POLLS
  read_word_of DCRDR

-- what DCRDR holds goes to the register
abbrev pub store_core_reg : ℕ → Job
store_core_reg reg = do
  write_word DCRSR (reg + DCRSR_REGWNR)
  wait_status S_REGRDY POLLS

abbrev pub write_core_reg : ℕ → ℕ → Job
write_core_reg reg value = do
  write_word DCRDR value
  store_core_reg reg
