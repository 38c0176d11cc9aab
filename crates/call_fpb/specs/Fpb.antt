-- Copyright 2026 Kenta Ida. SPDX-License-Identifier: Apache-2.0. Ported from arm-debug/src/lib.rs of ciniml/rust-dap.
-- The Flash Patch and Breakpoint unit's registers and bits (000: module fpb).
use Rattle.std.specs.Prelude.{ℕ}

-- NUM_CODE in bits 14:12 and 7:4, REV in bits 31:28
abbrev pub FP_CTRL : ℕ
FP_CTRL = 0xE0002000

-- the first comparator; the others follow word by word
abbrev pub FP_COMP0 : ℕ
FP_COMP0 = 0xE0002008

abbrev pub CTRL_KEY : ℕ
CTRL_KEY = 2

abbrev pub CTRL_ENABLE : ℕ
CTRL_ENABLE = 1

abbrev pub COMP_ENABLE : ℕ
COMP_ENABLE = 1
