-- Copyright 2026 Kenta Ida. SPDX-License-Identifier: Apache-2.0. Ported from arm-debug/src/lib.rs of ciniml/rust-dap.
-- The nRF52's debug registers (000: module nrf52; nRF52 product specification, CTRL_AP and NVMC).
use Rattle.std.specs.Prelude.{ℕ}

-- Nordic's own access port
abbrev pub CTRL_AP : ℕ
CTRL_AP = 1

-- 1 holds the chip in reset, 0 releases it
abbrev pub CTRLAP_RESET : ℕ
CTRLAP_RESET = 0x00

abbrev pub CTRLAP_ERASEALL : ℕ
CTRLAP_ERASEALL = 0x04

-- bit 0: busy
abbrev pub CTRLAP_ERASEALLSTATUS : ℕ
CTRLAP_ERASEALLSTATUS = 0x08

-- bit 0: not protected
abbrev pub CTRLAP_APPROTECTSTATUS : ℕ
CTRLAP_APPROTECTSTATUS = 0x0C

abbrev pub CTRLAP_IDR : ℕ
CTRLAP_IDR = 0xFC

abbrev pub CTRLAP_IDR_VALUE : ℕ
CTRLAP_IDR_VALUE = 0x02880000

-- bit 0: ready
abbrev pub NVMC_READY : ℕ
NVMC_READY = 0x4001E400

abbrev pub NVMC_CONFIG : ℕ
NVMC_CONFIG = 0x4001E504

-- takes the address of the page to erase
abbrev pub NVMC_ERASEPAGE : ℕ
NVMC_ERASEPAGE = 0x4001E508

-- reading only, writing, erasing
abbrev pub NVMC_CONFIG_REN : ℕ
NVMC_CONFIG_REN = 0

abbrev pub NVMC_CONFIG_WEN : ℕ
NVMC_CONFIG_WEN = 1

abbrev pub NVMC_CONFIG_EEN : ℕ
NVMC_CONFIG_EEN = 2

abbrev pub FLASH_PAGE : ℕ
FLASH_PAGE = 4096
