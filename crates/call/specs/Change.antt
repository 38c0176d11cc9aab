-- Copyright 2026 Kenta Ida. SPDX-License-Identifier: Apache-2.0. Ported from arm-debug/src/lib.rs of ciniml/rust-dap.
-- What a call changes besides its transport calls: what is remembered, the words that it runs over, the caller's buffer.
use Rattle.std.specs.Prelude.{ℕ, Bool, true, false, List, eqb, set, drop}
use Rattle.std.proofs.lemmas.List.Edits.{sets}
use Rattle.wire.specs.Wire.{Memory}
use Rattle.wire.specs.declared.Remembered.{Remembered}
use Rattle.wire_memap.specs.Action.{remembering}
use Rattle.wire_memap.specs.Ports.{selected}
use Rattle.call_bytes.specs.Bytes.{store_words, store_part, load_words, patch_word, from_place}
use Rattle.call.specs.declared.Change.{Change}
use Rattle.call.specs.declared.Change.TheVariants as C

-- as `new` makes it
abbrev pub fresh : Remembered
fresh = record { select = 0xFFFFFFFF; csw = false; apsel = 0 }

-- SELECT and CSW unknown
abbrev pub forgotten : Remembered → Remembered
forgotten r = record { select = 0xFFFFFFFF; csw = false; apsel = r.apsel }

-- another access port has a CSW of its own (000: set_apsel)
abbrev pub set_apsel : Bool → ℕ → Remembered → Remembered
set_apsel true a r = r
set_apsel false a r = record { select = r.select; csw = false; apsel = a }

-- one part anew, the others as they are; so is `remembering`
abbrev pub words_become : Memory → List ℕ → Memory
words_become m ws = record { remembered = m.remembered; words = ws; buf = m.buf }

abbrev pub buf_becomes : Memory → List ℕ → Memory
buf_becomes m b = record { remembered = m.remembered; words = m.words; buf = b }

abbrev pub changed : Change → Memory → Memory
changed C.Nothing m = m
changed C.New m = remembering m fresh
changed C.Forget m = remembering m (forgotten m.remembered)
changed C.SelectZero m = remembering m (selected 0 m.remembered)
changed (C.Apsel a) m = remembering m (set_apsel (eqb a m.remembered.apsel) a m.remembered)
changed (C.StoreWords at n) m = buf_becomes m (from_place at (store_words n m.words) m.buf)
changed (C.StorePart at skip count word) m = buf_becomes m (from_place at (store_part count word skip) m.buf)
changed (C.LoadWords at n) m = words_become m (load_words n (drop at m.buf) m.words)
changed (C.Patch at skip count word) m = words_become m (set m.words 0 (patch_word count word skip (drop at m.buf)))
changed (C.Put at word) m = words_become m (set m.words at word)
changed (C.Registers registers) m = words_become m (sets m.words 8 registers)
changed (C.Frame registers) m = words_become m (sets m.words 0 registers)
