-- Copyright 2026 Kenta Ida. SPDX-License-Identifier: Apache-2.0. Ported from arm-debug/src/lib.rs of ciniml/rust-dap.
-- Connecting to a target (000: connect_multidrop to reselect, power_up to write_targetsel).
use Rattle.std.specs.Prelude.{ℕ, zero, suc, ◌+◌, ◌/◌, ◌%◌, Bool, ◌||◌, cond, eqb}
use Rattle.wire.specs.declared.Call.TheVariants as T
use Rattle.wire.specs.declared.Pattern.TheVariants as P
use Rattle.wire.specs.declared.ArmError.TheVariants as E
use Rattle.wire_memap.specs.Ports.{DPIDR, ABORT, CTRL_STAT, SELECT}
use Rattle.call.specs.Job.{Job, ◌>>=◌, ◌>>◌, return, fail, keeping, dp_read, dp_write, transport}
use Rattle.call.specs.declared.Change.{Change}
use Rattle.call.specs.declared.Change.TheVariants as C
use Rattle.call_connect.specs.declared.ConnectCall.{ConnectCall}
use Rattle.call_connect.specs.declared.ConnectCall.TheVariants as N

-- at least 50 clocks high, then two idle ones
abbrev pub swd_line_reset : Job
swd_line_reset = do
  transport (T.Sequence P.ResetHigh)
  transport (T.Sequence P.ResetIdle)

abbrev pub jtag_to_swd : Job
jtag_to_swd = transport (T.Sequence P.JtagToSwd)

-- a target that is dormant already ignores it
abbrev pub swd_to_dormant : Job
swd_to_dormant = transport (T.Sequence P.SwdToDormant)

abbrev pub dormant_to_swd : Job
dormant_to_swd = do
  transport (T.Sequence P.AlertHigh)
  transport (T.Sequence P.SelectionAlert)
  transport (T.Sequence P.AlertIdle)
  transport (T.Sequence P.SwdActivation)

-- how many of the n low bits of a word are 1
unfoldable pub ones : ℕ → ℕ → ℕ
ones zero w = 0
ones (suc n) w = w % 2 + ones n (w / 2)

-- the bit that makes the number of ones even
abbrev pub parity : ℕ → ℕ
parity w = ones 32 w % 2

-- The target drives no ack for this write, so it goes out as bits: the request byte, 5 clocks for turnaround and ack,
-- the value and its parity.
abbrev pub write_targetsel : ℕ → Job
write_targetsel value = do
  transport T.OutputEnable
  transport (T.WriteBits 8 0x99)
  transport (T.WriteBits 5 0)
  transport (T.WriteBits 32 value)
  transport (T.WriteBits 1 (parity value))

abbrev pub no_target_of : ℕ → Bool
no_target_of v = eqb v 0 || eqb v 0xFFFFFFFF

abbrev pub accepted : ℕ → Job
accepted dpidr = cond (no_target_of dpidr) (fail E.NoTarget) (return dpidr)

-- DPIDR has to be the first transfer after a line reset
abbrev pub read_dpidr : Job
read_dpidr = do
  dpidr ← dp_read DPIDR
  accepted dpidr

-- CDBGPWRUPACK, bit 29, and CSYSPWRUPACK, bit 31
abbrev pub both_acks : ℕ → Bool
both_acks v = eqb (v / 0x20000000 % 2 + v / 0x80000000 % 2) 2

-- at most n reads of CTRL/STAT, until both acks stand
unfoldable pub poll_acks : ℕ → Job
poll_acks zero = fail E.PowerUpTimeout
poll_acks (suc n) = do
  v ← dp_read CTRL_STAT
  cond (both_acks v) (return 0) (poll_acks n)

-- CDBGPWRUPREQ, bit 28, and CSYSPWRUPREQ, bit 30
abbrev pub power_up : Job
power_up = do
  dp_write CTRL_STAT 0x50000000
  poll_acks 1024

-- what every connect does once DPIDR is good; `forget` makes SELECT and CSW unknown
abbrev pub set_up : Change → ℕ → Job
set_up forget dpidr = do
  keeping forget
  dp_write ABORT 0x1E
  dp_write SELECT 0
  keeping C.SelectZero
  power_up
  return dpidr

-- By way of dormant, whatever the target is in: on a link that is live already every other connect would fall out of step without it.
abbrev pub connect_multidrop : ℕ → Job
connect_multidrop targetsel = do
  transport T.Connect
  swd_line_reset
  swd_to_dormant
  dormant_to_swd
  swd_line_reset
  write_targetsel targetsel
  dpidr ← read_dpidr
  set_up C.Forget dpidr

-- Without TARGETSEL every debug port on the wire answers, and a write reaches all of them: on an RP2040 the Rescue DP too, to which
-- CDBGPWRUPREQ means a reset of the chip; its cores answer no more until nRESET. So the probe only reads, and call 3 is for a port that
-- is alone on its wire.
abbrev pub probe_swd : Job
probe_swd = do
  transport T.Connect
  swd_line_reset
  jtag_to_swd
  swd_line_reset
  read_dpidr

-- APSEL becomes 0 besides
abbrev pub connect_swd : Job
connect_swd = do
  dpidr ← probe_swd
  set_up C.New dpidr

-- output 0 on N_RESET, bit 7, alone: for a target whose program has wedged its debug port
abbrev pub reset_pulse : ℕ → Job
reset_pulse wait = do
  transport (T.Pins 0x00 0x80 wait)
  return 0

-- to another target of a link that is live since a whole connect: no way by dormant
abbrev pub reselect : ℕ → Job
reselect targetsel = do
  swd_line_reset
  write_targetsel targetsel
  dpidr ← read_dpidr
  set_up C.Forget dpidr

-- calls 1 to 5
unfoldable pub connect_job : ConnectCall → Job
connect_job (N.ConnectMultidrop targetsel) = connect_multidrop targetsel
connect_job N.ProbeSwd = probe_swd
connect_job N.ConnectSwd = connect_swd
connect_job (N.ResetPulse wait) = reset_pulse wait
connect_job (N.Reselect targetsel) = reselect targetsel
