-- Copyright 2026 Kenta Ida. SPDX-License-Identifier: Apache-2.0. Ported from arm-debug/src/lib.rs of ciniml/rust-dap.
-- Hardware breakpoints (000: fpb_num_comps to hw_breakpoint_at). Yes is 1 and no is 0.
use Rattle.std.specs.Prelude.{ℕ, zero, suc, ◌+◌, ◌-◌, ◌*◌, ◌/◌, ◌%◌, cond, eqb, leb, Option, None, Some}
use Rattle.call.specs.Job.{Job, ◌>>=◌, ◌>>◌, return, read_word_of, write_word}
use Rattle.call_fpb.specs.Fpb as fpb
use Rattle.call_fpb.specs.declared.FpbCall.{FpbCall}
use Rattle.call_fpb.specs.declared.FpbCall.TheVariants as N

abbrev pub yes : Job
yes = return 1

abbrev pub no : Job
no = return 0

-- how many comparators there are: bits 14:12 and 7:4 of FP_CTRL
abbrev pub num_code : ℕ → ℕ
num_code ctrl = ctrl / 0x1000 % 8 * 16 + ctrl / 0x10 % 16

-- bits 31:28 of FP_CTRL
abbrev pub revision : ℕ → ℕ
revision ctrl = ctrl / 0x10000000 % 16

abbrev pub fpb_num_comps : Job
fpb_num_comps = do
  ctrl ← read_word_of fpb.FP_CTRL
  return (num_code ctrl)

-- What a comparator holds for a breakpoint at `addr`, if there can be one. From revision 1 on: the halfword's address. Revision 0, which
-- reaches code below 0x20000000 alone: REPLACE, bits 31:30, is 2 for the upper halfword and 1 for the lower; then the word's address.
abbrev pub fpb_comp_value : ℕ → ℕ → Option ℕ
fpb_comp_value addr rev =
    cond (leb 1 rev) (Some (addr - addr % 2 + fpb.COMP_ENABLE))
    (cond (leb 0x20000000 addr) None (Some ((1 + addr / 2 % 2) * 0x40000000 + (addr - addr % 4) + fpb.COMP_ENABLE)))

-- where there is no value the call ends with no
abbrev pub breakable : Option ℕ → (ℕ → Job) → Job
breakable None next = no
breakable (Some value) next = next value

abbrev pub fpb_rev : Job
fpb_rev = do
  ctrl ← read_word_of fpb.FP_CTRL
  return (revision ctrl)

-- the address of comparator i
abbrev pub comparator : ℕ → ℕ
comparator i = fpb.FP_COMP0 + 4 * i

-- comparator i is the first free one, unless one was found before it; a free one has bit 0 clear
abbrev pub first_free : Option ℕ → ℕ → ℕ → Option ℕ
first_free (Some j) i comp = Some j
first_free None i comp = cond (eqb (comp % 2) 0) (Some i) None

-- the value goes to the free comparator
abbrev pub take_free : ℕ → Option ℕ → Job
take_free value (Some i) = do
  write_word (comparator i) value
  yes
take_free value None = no

-- `left` of n comparators to go: all of them are looked at before a free one is taken
unfoldable pub seek : ℕ → ℕ → ℕ → Option ℕ → Job
seek value n zero free = take_free value free
seek value n (suc left) free = do
  comp ← read_word_of (comparator (n - suc left))
  cond (eqb comp value) yes (seek value n left (first_free free (n - suc left) comp))

-- KEY and ENABLE, the two low bits, are set besides
abbrev pub enabled : ℕ → ℕ
enabled ctrl = ctrl - ctrl % 4 + fpb.CTRL_KEY + fpb.CTRL_ENABLE

abbrev pub hw_breakpoint_set : ℕ → Job
hw_breakpoint_set addr = do
  ctrl ← read_word_of fpb.FP_CTRL
  breakable (fpb_comp_value addr (revision ctrl)) (λ value. cond (eqb (num_code ctrl) 0) no (do
    write_word fpb.FP_CTRL (enabled ctrl)
    seek value (num_code ctrl) (num_code ctrl) None))

-- `left` of n comparators to go: the first one that holds the value, by its number, is found
unfoldable pub find : (ℕ → Job) → ℕ → ℕ → ℕ → Job
find found value n zero = no
find found value n (suc left) = do
  comp ← read_word_of (comparator (n - suc left))
  cond (eqb comp value) (found (n - suc left)) (find found value n left)

-- FP_CTRL is read twice: REV of the first, NUM_CODE of the second
abbrev pub look_up : (ℕ → Job) → ℕ → Job
look_up found addr = do
  rev ← fpb_rev
  breakable (fpb_comp_value addr rev) (λ value. do
    n ← fpb_num_comps
    find found value n n)

abbrev pub clear : ℕ → Job
clear i = do
  write_word (comparator i) 0
  yes

abbrev pub hw_breakpoint_clear : ℕ → Job
hw_breakpoint_clear addr = look_up clear addr

abbrev pub hw_breakpoint_at : ℕ → Job
hw_breakpoint_at addr = look_up (λ (_ : ℕ). yes) addr

-- calls 26 to 28
unfoldable pub fpb_job : FpbCall → Job
fpb_job (N.HwBreakpointSet addr) = hw_breakpoint_set addr
fpb_job (N.HwBreakpointClear addr) = hw_breakpoint_clear addr
fpb_job (N.HwBreakpointAt addr) = hw_breakpoint_at addr
