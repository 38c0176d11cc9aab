-- Copyright 2026 Kenta Ida. SPDX-License-Identifier: Apache-2.0. Ported from arm-debug/src/lib.rs of ciniml/rust-dap.
-- Raw registers of an access port, words and memory (000: set_apsel to ap_reg_write, read_word to write_mem).
use Rattle.std.specs.Prelude.{ℕ, zero, suc, ◌+◌, ◌-◌, ◌*◌, ◌/◌, ◌%◌, min, Bool, true, false, ◌&&◌, cond, eqb, leb}
use Rattle.wire.specs.declared.ArmError.TheVariants as E
use Rattle.wire_memap.specs.Words.{tar_run}
use Rattle.wire_memap.specs.declared.Op.TheVariants as O
use Rattle.call.specs.Job.{Job, ◌>>=◌, ◌>>◌, return, fail, just, keeping, ap_read, ap_write, read_word_of, write_word}
use Rattle.call.specs.declared.Change.TheVariants as C
use Rattle.call_memory.specs.declared.MemoryCall.{MemoryCall}
use Rattle.call_memory.specs.declared.MemoryCall.TheVariants as M

-- n words in the caller's row (000: read_words)
abbrev pub read_words : ℕ → ℕ → Job
read_words addr n = just (O.ReadWords addr n (n - 1))

-- (000: write_words)
abbrev pub write_words : ℕ → ℕ → Job
write_words addr n = cond (eqb n 0) (return 0) (just (O.WriteWords addr n (n - 1)))

-- the words of one run of read_mem and write_mem
abbrev pub run_words : ℕ → ℕ → ℕ
run_words addr words = min (tar_run addr words) 64

-- n whole words between the address a and place `at` of the caller's buffer
abbrev pub move_words : Bool → ℕ → ℕ → ℕ → Job
move_words true a at n = do
  just (O.ReadWords a n (n - 1))
  keeping (C.StoreWords at n)
move_words false a at n = do
  keeping (C.LoadWords at n)
  just (O.WriteWords a n (n - 1))

-- `count` bytes of the word that holds the address a; to write them, it is read, changed and written back
abbrev pub move_part : Bool → ℕ → ℕ → ℕ → Job
move_part true a at count = do
  word ← read_word_of (a - a % 4)
  keeping (C.StorePart at (a % 4) count word)
move_part false a at count = do
  word ← read_word_of (a - a % 4)
  keeping (C.Patch at (a % 4) count word)
  just (O.WriteWords (a - a % 4) 1 0)

-- whether a turn with `left` bytes to go moves whole words, and else how much of the word that holds the address a
abbrev pub whole : ℕ → ℕ → Bool
whole a left = eqb (a % 4) 0 && leb 4 left

abbrev pub part_bytes : ℕ → ℕ → ℕ
part_bytes a left = min (4 - a % 4) left

abbrev pub turn : Bool → ℕ → ℕ → ℕ → Job
turn read a at left = cond (whole a left) (move_words read a at (run_words a (left / 4))) (move_part read a at (part_bytes a left))

-- the bytes that it moves
abbrev pub moved : ℕ → ℕ → ℕ
moved a left = cond (whole a left) (4 * run_words a (left / 4)) (part_bytes a left)

-- The Rust's `while`: `left` bytes to go, the last of them just below the address `stop` and at the buffer's end, `len`. The first
-- number bounds the turns.
unfoldable pub turns : ℕ → Bool → ℕ → ℕ → ℕ → Job
turns zero read stop len left = return 0
turns (suc fuel) read stop len left = cond (eqb left 0) (return 0) (do
  turn read (stop - left) (len - left) left
  turns fuel read stop len (left - moved (stop - left) left))

-- every turn moves a byte, so `left` turns are enough
abbrev pub mem_from : Bool → ℕ → ℕ → ℕ → Job
mem_from read stop len left = turns left read stop len left

-- 01's Range: the range has to end below 2^32
abbrev pub in_range : Bool → Job → Job
in_range past j = cond past (fail E.Range) j

abbrev pub mem : Bool → ℕ → ℕ → Job
mem read addr len = in_range (leb 0x100000000 (addr + len)) (mem_from read (addr + len) len len)

abbrev pub read_mem_of : ℕ → ℕ → Job
read_mem_of addr len = mem true addr len

abbrev pub write_mem_of : ℕ → ℕ → Job
write_mem_of addr len = mem false addr len

-- Calls 6 to 14, with as many words and bytes as the caller lends. 2^32 words or more are out of range.
unfoldable pub memory_job : MemoryCall → ℕ → ℕ → Job
memory_job (M.SetApsel apsel) words bytes = keeping (C.Apsel apsel)
memory_job (M.ApRegRead addr) words bytes = ap_read addr
memory_job (M.ApRegWrite addr word) words bytes = ap_write addr word
memory_job (M.ReadWord addr) words bytes = read_word_of addr
memory_job (M.WriteWord addr word) words bytes = write_word addr word
memory_job (M.ReadWords addr) words bytes = in_range (leb 0x100000000 words) (read_words addr words)
memory_job (M.WriteWords addr) words bytes = in_range (leb 0x100000000 words) (write_words addr words)
memory_job (M.ReadMem addr) words bytes = read_mem_of addr bytes
memory_job (M.WriteMem addr) words bytes = write_mem_of addr bytes
