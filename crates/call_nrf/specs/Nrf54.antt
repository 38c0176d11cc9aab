-- Copyright 2026 Kenta Ida. SPDX-License-Identifier: Apache-2.0. Ported from arm-debug/src/lib.rs of ciniml/rust-dap.
-- The nRF54's debug registers (000: module nrf54). Those of its CTRL_AP lie as the nRF52's.
use Rattle.std.specs.Prelude.{ℕ}

abbrev pub CTRL_AP : ℕ
CTRL_AP = 2

-- bit 0: ready
abbrev pub RRAMC_READY : ℕ
RRAMC_READY = 0x4004B400

abbrev pub RRAMC_CONFIG : ℕ
RRAMC_CONFIG = 0x4004B500

-- 1 writes the buffer out
abbrev pub RRAMC_COMMIT : ℕ
RRAMC_COMMIT = 0x4004B008

abbrev pub RRAMC_CONFIG_WEN : ℕ
RRAMC_CONFIG_WEN = 1
