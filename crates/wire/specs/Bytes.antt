-- Copyright 2026 Kenta Ida. SPDX-License-Identifier: Apache-2.0. Ported from arm-debug/src/lib.rs of ciniml/rust-dap.
-- The bits of the fixed sequences and the bytes that a transport call hands over (000: swd_line_reset to write_targetsel);
-- words in lists of bytes, lowest byte first (000: to_le_bytes, from_le_bytes).
use Rattle.std.specs.Prelude.{ℕ, ◌+◌, ◌-◌, ◌*◌, ◌/◌, ◌%◌, List, [], ◌∷◌, ◌++◌, length, get_or, replicate, take}
use Rattle.std.proofs.lemmas.List.Edits.{sets}
use Rattle.wire.specs.declared.Pattern.{Pattern}
use Rattle.wire.specs.declared.Pattern.TheVariants as P
use Rattle.wire.specs.declared.Call.{Call}
use Rattle.wire.specs.declared.Call.TheVariants as C

-- how many bits of its bytes a fixed sequence sends
abbrev pub pattern_bits : Pattern → ℕ
pattern_bits P.ResetHigh = 51
pattern_bits P.ResetIdle = 2
pattern_bits P.JtagToSwd = 16
pattern_bits P.SwdToDormant = 16
pattern_bits P.AlertHigh = 8
pattern_bits P.SelectionAlert = 128
pattern_bits P.AlertIdle = 4
pattern_bits P.SwdActivation = 8

-- its bytes: codes of 16 bits go low byte first
abbrev pub pattern_bytes : Pattern → List ℕ
pattern_bytes P.ResetHigh = replicate 8 0xFF
pattern_bytes P.ResetIdle = 0x00 ∷ []
pattern_bytes P.JtagToSwd = 0x9E ∷ 0xE7 ∷ []
pattern_bytes P.SwdToDormant = 0xBC ∷ 0xE3 ∷ []
pattern_bytes P.AlertHigh = 0xFF ∷ []
pattern_bytes P.SelectionAlert =
    0x92 ∷ 0xF3 ∷ 0x09 ∷ 0x62 ∷ 0x95 ∷ 0x2D ∷ 0x85 ∷ 0x86 ∷ 0xE9 ∷ 0xAF ∷ 0xDD ∷ 0xE3 ∷ 0xA2 ∷ 0x0E ∷ 0xBC ∷ 0x19 ∷ []
pattern_bytes P.AlertIdle = 0x00 ∷ []
pattern_bytes P.SwdActivation = 0x1A ∷ []

-- the bytes of a word, lowest first
abbrev pub le_bytes : ℕ → List ℕ
le_bytes w = w % 256 ∷ w / 256 % 256 ∷ w / 256 / 256 % 256 ∷ w / 256 / 256 / 256 % 256 ∷ []

-- the word of the four bytes from place i on; what is missing reads 0
abbrev pub le_word : List ℕ → ℕ → ℕ
le_word b i = get_or b i 0 + 0x100 * get_or b (i + 1) 0 + 0x10000 * get_or b (i + 2) 0 + 0x1000000 * get_or b (i + 3) 0

-- the list with a word's bytes from place i on; what falls outside is dropped
abbrev pub put_word : List ℕ → ℕ → ℕ → List ℕ
put_word b i w = sets b i (le_bytes w)

-- the bytes that a transport call hands over
abbrev pub handed : Call → List ℕ
handed (C.Transfer request word) = []
handed C.Connect = []
handed (C.Sequence p) = pattern_bytes p
handed (C.Pins output select wait) = []
handed (C.WriteBits bits word) = take ((bits + 7) / 8) (le_bytes word)
handed C.OutputEnable = []

-- as they stand in an array of 16
abbrev pub padded : List ℕ → List ℕ
padded bs = bs ++ replicate (16 - length bs) 0

-- the fixed sequences by number
abbrev pub pattern_no : Pattern → ℕ
pattern_no P.ResetHigh = 0
pattern_no P.ResetIdle = 1
pattern_no P.JtagToSwd = 2
pattern_no P.SwdToDormant = 3
pattern_no P.AlertHigh = 4
pattern_no P.SelectionAlert = 5
pattern_no P.AlertIdle = 6
pattern_no P.SwdActivation = 7

abbrev pub patterns : List Pattern
patterns = P.ResetHigh ∷ P.ResetIdle ∷ P.JtagToSwd ∷ P.SwdToDormant ∷ P.AlertHigh ∷ P.SelectionAlert ∷ P.AlertIdle ∷ []

abbrev pub pattern_at : ℕ → Pattern
pattern_at n = get_or patterns n P.SwdActivation
