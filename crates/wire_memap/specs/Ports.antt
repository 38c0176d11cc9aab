-- Copyright 2026 Kenta Ida. SPDX-License-Identifier: Apache-2.0. Ported from arm-debug/src/lib.rs of ciniml/rust-dap.
-- Registers of the debug port and of an access port (000: dp_read to ap_read, ensure_csw). A request has APnDP 1, RnW 2,
-- A2 4 and A3 8. SELECT is written only where it differs from the one remembered, and remembered after its Ok only; so is CSW.
use Rattle.std.specs.Prelude.{ℕ, ◌+◌, ◌*◌, ◌/◌, ◌%◌, true, cond, eqb}
use Rattle.wire.specs.declared.Remembered.{Remembered}
use Rattle.wire_memap.specs.Action.{Action, ◌>>◌, return, transferring, remember}

-- the debug port's registers
abbrev pub DPIDR : ℕ
DPIDR = 0x0

abbrev pub ABORT : ℕ
ABORT = 0x0

abbrev pub CTRL_STAT : ℕ
CTRL_STAT = 0x4

abbrev pub SELECT : ℕ
SELECT = 0x8

abbrev pub RDBUFF : ℕ
RDBUFF = 0xC

-- the memory access port's
abbrev pub CSW : ℕ
CSW = 0x0

abbrev pub TAR : ℕ
TAR = 0x4

abbrev pub DRW : ℕ
DRW = 0xC

-- words, TAR advancing by itself, and the bits that the Rust sets besides
abbrev pub CSW_DEFAULT : ℕ
CSW_DEFAULT = 0x23000012

-- A2 and A3 of an address
abbrev pub a32 : ℕ → ℕ
a32 addr = addr % 16 / 4 * 4

-- the requests that read and write a register of the debug port, and of an access port
abbrev pub dp_reading : ℕ → ℕ
dp_reading addr = 2 + a32 addr

abbrev pub dp_writing : ℕ → ℕ
dp_writing addr = a32 addr

abbrev pub ap_reading : ℕ → ℕ
ap_reading addr = 3 + a32 addr

abbrev pub ap_writing : ℕ → ℕ
ap_writing addr = 1 + a32 addr

abbrev pub dp_read : ℕ → Action
dp_read addr = transferring (dp_reading addr) 0

abbrev pub dp_write : ℕ → ℕ → Action
dp_write addr word = do
  transferring (dp_writing addr) word
  return 0

-- SELECT for the register at `addr` of the present access port
abbrev pub select_of : Remembered → ℕ → ℕ
select_of r addr = r.apsel * 0x1000000 + addr / 16 * 16

abbrev pub selected : ℕ → Remembered → Remembered
selected s r = record { select = s; csw = r.csw; apsel = r.apsel }

abbrev pub select_ap_bank : ℕ → Action
select_ap_bank addr k m = cond (eqb (select_of m.remembered addr) m.remembered.select) (return 0) (do
  dp_write SELECT (select_of m.remembered addr)
  remember (selected (select_of m.remembered addr))) k m

-- a transfer to the register at `addr` of the present access port
abbrev pub ap_access : ℕ → ℕ → ℕ → Action
ap_access request addr word = do
  select_ap_bank addr
  transferring request word

abbrev pub ap_write : ℕ → ℕ → Action
ap_write addr word = do
  ap_access (ap_writing addr) addr word
  return 0

-- a read is posted: its own answer is the read before, and RDBUFF has its value
abbrev pub ap_read : ℕ → Action
ap_read addr = do
  ap_access (ap_reading addr) addr 0
  dp_read RDBUFF

abbrev pub csw_known : Remembered → Remembered
csw_known r = record { select = r.select; csw = true; apsel = r.apsel }

abbrev pub ensure_csw : ℕ → Action
ensure_csw wanted k m = cond m.remembered.csw (return 0) (do
  ap_write CSW wanted
  remember csw_known) k m
