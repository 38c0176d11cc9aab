-- Copyright 2026 Kenta Ida. SPDX-License-Identifier: Apache-2.0. Ported from arm-debug/src/lib.rs of ciniml/rust-dap.
-- Nordic chips: protection, mass erase and flash (000: nrf52_approtect_status to nrf54_program).
-- A transfer that fails ends the call at its place, and APSEL stays as it was set.
use Rattle.std.specs.Prelude.{ℕ, zero, suc, ◌+◌, ◌-◌, ◌*◌, ◌%◌, Bool, true, false, cond, eqb, leb, Ok, Err}
use Rattle.wire.specs.declared.ArmError.TheVariants as E
use Rattle.wire.specs.Outcomes.{Outcome}
use Rattle.wire_memap.specs.Words.{tar_run}
use Rattle.wire_memap.specs.declared.Op.TheVariants as O
use Rattle.call.specs.Job.{Job, ends, ◌>>=◌, ◌>>◌, return, fail, just, keeping, ap_read, ap_write, read_word_of, write_word}
use Rattle.call.specs.declared.Change.TheVariants as C
use Rattle.call_nrf.specs.Nrf52 as nrf52
use Rattle.call_nrf.specs.Nrf54 as nrf54
use Rattle.call_nrf.specs.declared.NrfCall.{NrfCall}
use Rattle.call_nrf.specs.declared.NrfCall.TheVariants as N

abbrev pub set_apsel : ℕ → Job
set_apsel apsel = keeping (C.Apsel apsel)

-- 1 if access is not protected, and 2 more if the CTRL_AP is known
abbrev pub answer : Bool → ℕ → ℕ
answer known status = cond known (status % 2 + 2) (status % 2)

abbrev pub read_status : Bool → Job
read_status known = do
  status ← ap_read nrf52.CTRLAP_APPROTECTSTATUS
  set_apsel 0
  return (answer known status)

abbrev pub nrf52_approtect_status : Job
nrf52_approtect_status = do
  set_apsel nrf52.CTRL_AP
  idr ← ap_read nrf52.CTRLAP_IDR
  read_status (eqb idr nrf52.CTRLAP_IDR_VALUE)

-- whether the erase came to its end
abbrev pub outcome : Bool → Outcome
outcome erased = cond erased (Ok 0) (Err E.CoreTimeout)

abbrev pub soft_reset : Bool → Job
soft_reset erased = do
  ap_write nrf52.CTRLAP_RESET 1
  ap_write nrf52.CTRLAP_RESET 0
  set_apsel 0
  ends (outcome erased)

-- at most n reads of ERASEALLSTATUS, until bit 0 is clear; the reset follows in any case
unfoldable pub poll_erased : ℕ → Job
poll_erased zero = soft_reset false
poll_erased (suc n) = do
  status ← ap_read nrf52.CTRLAP_ERASEALLSTATUS
  cond (eqb (status % 2) 0) (soft_reset true) (poll_erased n)

-- The mass erase by the CTRL_AP at `ap`, which is reached even where APPROTECT blocks memory: there is no other way past it.
abbrev pub erase_all : ℕ → ℕ → Job
erase_all ap polls = do
  set_apsel ap
  ap_write nrf52.CTRLAP_ERASEALL 1
  poll_erased polls

abbrev pub nrf52_erase_all : ℕ → Job
nrf52_erase_all polls = erase_all nrf52.CTRL_AP polls

-- at most n reads of the register READY, until bit 0 is set
unfoldable pub wait_ready : ℕ → ℕ → Job
wait_ready ready zero = fail E.CoreTimeout
wait_ready ready (suc n) = do
  v ← read_word_of ready
  cond (eqb (v % 2) 1) (return 0) (wait_ready ready n)

abbrev pub nvmc_wait : ℕ → Job
nvmc_wait polls = wait_ready nrf52.NVMC_READY polls

abbrev pub nrf52_erase_page : ℕ → ℕ → Job
nrf52_erase_page addr polls = do
  write_word nrf52.NVMC_CONFIG nrf52.NVMC_CONFIG_EEN
  nvmc_wait polls
  write_word nrf52.NVMC_ERASEPAGE (addr - addr % nrf52.FLASH_PAGE)
  nvmc_wait polls
  write_word nrf52.NVMC_CONFIG nrf52.NVMC_CONFIG_REN
  return 0

-- No words succeed at once. 01's Align and Range: the address is a multiple of 4, and the range ends below 2^32.
abbrev pub programmable : ℕ → ℕ → Job → Job
programmable addr words j =
    cond (eqb words 0) (return 0)
    (cond (eqb (addr % 4) 0) (cond (leb 0x100000000 (addr + 4 * words)) (fail E.Range) j) (fail E.Align))

-- n words of the caller's, from place `at` on (000: write_words)
abbrev pub write_words : ℕ → ℕ → ℕ → Job
write_words addr at n = just (O.WriteWords addr n (at + (n - 1)))

-- `left` of the caller's `len` words to go, the last of them just below the address `stop`; the next `passed` of them are
-- written already, so that the count goes down word by word. `settle` follows each run.
unfoldable pub runs : Job → ℕ → ℕ → ℕ → ℕ → Job
runs settle stop len zero passed = return 0
runs settle stop len (suc left) (suc passed) = runs settle stop len left passed
runs settle stop len (suc left) zero = do
  write_words (stop - 4 * suc left) (len - suc left) (tar_run (stop - 4 * suc left) (suc left))
  settle
  runs settle stop len left (tar_run (stop - 4 * suc left) (suc left) - 1)

-- the flash only clears bits, so the caller erases it first
abbrev pub nrf52_program : ℕ → ℕ → ℕ → Job
nrf52_program addr words polls = programmable addr words (do
  write_word nrf52.NVMC_CONFIG nrf52.NVMC_CONFIG_WEN
  nvmc_wait polls
  runs (nvmc_wait polls) (addr + 4 * words) words words 0
  write_word nrf52.NVMC_CONFIG nrf52.NVMC_CONFIG_REN
  return 0)

abbrev pub nrf54_approtect_status : Job
nrf54_approtect_status = do
  set_apsel nrf54.CTRL_AP
  read_status false

abbrev pub nrf54_erase_all : ℕ → Job
nrf54_erase_all polls = erase_all nrf54.CTRL_AP polls

abbrev pub rramc_wait : ℕ → Job
rramc_wait polls = wait_ready nrf54.RRAMC_READY polls

-- this memory is overwritten as it is, by way of a buffer
abbrev pub nrf54_program : ℕ → ℕ → ℕ → Job
nrf54_program addr words polls = programmable addr words (do
  write_word nrf54.RRAMC_CONFIG nrf54.RRAMC_CONFIG_WEN
  runs (return 0) (addr + 4 * words) words words 0
  write_word nrf54.RRAMC_COMMIT 1
  rramc_wait polls
  write_word nrf54.RRAMC_CONFIG 0
  return 0)

-- calls 29 to 35, with as many words as the caller lends
unfoldable pub nrf_job : NrfCall → ℕ → Job
nrf_job N.Nrf52ApprotectStatus words = nrf52_approtect_status
nrf_job (N.Nrf52EraseAll polls) words = nrf52_erase_all polls
nrf_job (N.Nrf52ErasePage addr polls) words = nrf52_erase_page addr polls
nrf_job (N.Nrf52Program addr polls) words = nrf52_program addr words polls
nrf_job N.Nrf54ApprotectStatus words = nrf54_approtect_status
nrf_job (N.Nrf54EraseAll polls) words = nrf54_erase_all polls
nrf_job (N.Nrf54Program addr polls) words = nrf54_program addr words polls
