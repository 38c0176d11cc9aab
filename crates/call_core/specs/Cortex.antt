-- Copyright 2026 Kenta Ida. SPDX-License-Identifier: Apache-2.0. Ported from arm-debug/src/lib.rs of ciniml/rust-dap.
-- The core's debug registers, their bits and its register numbers (000: cortex_m).
use Rattle.std.specs.Prelude.{ℕ, ◌/◌, ◌%◌, Bool, eqb}

-- Debug Halting Control and Status Register
abbrev pub DHCSR : ℕ
DHCSR = 0xE000EDF0

-- Debug Core Register Selector
abbrev pub DCRSR : ℕ
DCRSR = 0xE000EDF4

-- Debug Core Register Data
abbrev pub DCRDR : ℕ
DCRDR = 0xE000EDF8

-- the key in the top half of DHCSR, without which a write is ignored
abbrev pub DBGKEY : ℕ
DBGKEY = 0xA05F0000

abbrev pub C_DEBUGEN : ℕ
C_DEBUGEN = 0x1

abbrev pub C_HALT : ℕ
C_HALT = 0x2

abbrev pub C_STEP : ℕ
C_STEP = 0x4

abbrev pub C_MASKINTS : ℕ
C_MASKINTS = 0x8

-- DHCSR as it is read: a core register is transferred
abbrev pub S_REGRDY : ℕ
S_REGRDY = 0x10000

-- DHCSR as it is read: the core is halted
abbrev pub S_HALT : ℕ
S_HALT = 0x20000

-- a status bit of a DHCSR that was read: 1 where it stands
abbrev pub status : ℕ → ℕ → ℕ
status bit v = v / bit % 2

abbrev pub stands : ℕ → ℕ → Bool
stands bit v = eqb (status bit v) 1

-- DCRSR: the register is written, not read
abbrev pub DCRSR_REGWNR : ℕ
DCRSR_REGWNR = 0x10000

-- DCRSR's numbers; r0 to r15 are 0 to 15
abbrev pub R0 : ℕ
R0 = 0

abbrev pub SP : ℕ
SP = 13

abbrev pub LR : ℕ
LR = 14

abbrev pub PC : ℕ
PC = 15

abbrev pub XPSR : ℕ
XPSR = 16
