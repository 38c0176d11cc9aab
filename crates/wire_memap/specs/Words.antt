-- Copyright 2026 Kenta Ida. SPDX-License-Identifier: Apache-2.0. Ported from arm-debug/src/lib.rs of ciniml/rust-dap.
-- Words of the target's memory (000: read_word to write_words). The words of a run stand in the memory's row: the last one
-- at place `last`, the others before it.
use Rattle.std.specs.Prelude.{ℕ, zero, suc, ◌-◌, ◌/◌, ◌%◌, min, cond, eqb, set, get_or, Ok}
use Rattle.wire.specs.Wire.{Memory}
use Rattle.wire_memap.specs.Action.{Action, ◌>>=◌, ◌>>◌, return, transferring}
use Rattle.wire_memap.specs.Ports.{RDBUFF, TAR, DRW, CSW_DEFAULT, ap_reading, ap_writing, dp_read, ap_access, ap_write, ap_read, ensure_csw}

abbrev pub read_word_of : ℕ → Action
read_word_of addr = do
  ensure_csw CSW_DEFAULT
  ap_write TAR addr
  ap_read DRW

-- A write is posted: its own answer comes before it is done. Reading RDBUFF waits until it is, so that its error is this call's.
abbrev pub flush : Action
flush = do
  dp_read RDBUFF
  return 0

abbrev pub write_word : ℕ → ℕ → Action
write_word addr word = do
  ensure_csw CSW_DEFAULT
  ap_write TAR addr
  ap_write DRW word
  flush

abbrev pub placed : Memory → ℕ → ℕ → Memory
placed m i v = record { remembered = m.remembered; words = set m.words i v; buf = m.buf }

-- the word v goes to place i of the row; a place outside is dropped
abbrev pub place : ℕ → ℕ → Action
place i v k m = k (placed m i v) (Ok 0)

-- as many words as fit below the next multiple of 1024, up to which every TAR goes on
abbrev pub tar_run : ℕ → ℕ → ℕ
tar_run addr words = min ((1024 - addr % 1024) / 4) words

-- each of `more` reads of DRW answers the word before it, and RDBUFF the last
unfoldable pub pull : ℕ → ℕ → Action
pull last zero = do
  v ← dp_read RDBUFF
  place last v
pull last (suc more) = do
  v ← transferring (ap_reading DRW) 0
  place (last - suc more) v
  pull last more

abbrev pub read_words : ℕ → ℕ → ℕ → Action
read_words addr n last = do
  ensure_csw CSW_DEFAULT
  ap_write TAR addr
  cond (eqb n 0) (return 0) (do
    ap_access (ap_reading DRW) DRW 0
    pull last (n - 1))

-- the word at place i of the row; a place outside reads 0
abbrev pub row_at : ℕ → Memory → ℕ
row_at i m = get_or m.words i 0

-- `more` words to go
unfoldable pub push : ℕ → ℕ → Action
push last zero k m = flush k m
push last (suc more) k m = (do
  transferring (ap_writing DRW) (row_at (last - more) m)
  push last more) k m

-- the first of n words, n at least 1, behind SELECT where that is due, and the others
abbrev pub push_all : ℕ → ℕ → Action
push_all last n k m = (do
  ap_access (ap_writing DRW) DRW (row_at (last - (n - 1)) m)
  push last (n - 1)) k m

abbrev pub write_words : ℕ → ℕ → ℕ → Action
write_words addr n last = do
  ensure_csw CSW_DEFAULT
  ap_write TAR addr
  push_all last n
