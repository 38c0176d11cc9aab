-- Copyright 2026 Kenta Ida. SPDX-License-Identifier: Apache-2.0. Ported from arm-debug/src/lib.rs of ciniml/rust-dap.
-- Words and bytes, lowest byte first (000: to_le_bytes and from_le_bytes in read_mem and write_mem).
-- What falls outside a list is dropped; what is missing reads 0.
use Rattle.std.specs.Prelude.{ℕ, zero, suc, ◌+◌, ◌*◌, List, ◌++◌, set, get_or, take, drop}
use Rattle.wire.specs.Bytes.{le_bytes, le_word, put_word}

-- n words of the row, as bytes, at the front of b
unfoldable pub store_words : ℕ → List ℕ → List ℕ → List ℕ
store_words zero ws b = b
store_words (suc n) ws b = put_word (store_words n ws b) (4 * n) (get_or ws n 0)

-- n bytes of the word w, from its byte `skip` on, at the front of b
unfoldable pub store_part : ℕ → ℕ → ℕ → List ℕ → List ℕ
store_part zero w skip b = b
store_part (suc n) w skip b = set (store_part n w skip b) n (get_or (le_bytes w) (skip + n) 0)

-- n words from the front of b, in the row's first places
unfoldable pub load_words : ℕ → List ℕ → List ℕ → List ℕ
load_words zero b ws = ws
load_words (suc n) b ws = set (load_words n b ws) n (le_word b (4 * n))

-- the bytes of the word w, of which n from `skip` on are those at the front of b
unfoldable pub patch_bytes : ℕ → ℕ → ℕ → List ℕ → List ℕ
patch_bytes zero w skip b = le_bytes w
patch_bytes (suc n) w skip b = set (patch_bytes n w skip b) (skip + n) (get_or b n 0)

abbrev pub patch_word : ℕ → ℕ → ℕ → List ℕ → ℕ
patch_word n w skip b = le_word (patch_bytes n w skip b) 0

-- the part of b from place `at` on becomes what f makes of it
abbrev pub from_place : ℕ → (List ℕ → List ℕ) → List ℕ → List ℕ
from_place at f b = take at b ++ f (drop at b)
