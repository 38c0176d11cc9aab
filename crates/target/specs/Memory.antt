-- The lent memory: bytes from `base` on (01: "The model target"; reading 23). It may have any length and any base: addresses are
-- compared as numbers, without wrapping, and a word is in memory if all four of its bytes are. `load` and `store` are the only
-- ways to it.
use Rattle.std.specs.Prelude.{Bool, ◌&&◌, cond, List, ℕ, ◌+◌, ◌-◌, length, get_or, leb, ltb, Option, Some, None}
use Rattle.wire.specs.Bytes.{le_word, put_word}
use Rattle.target.specs.declared.Target.{Target}

-- the byte at an address, or that there is none
abbrev pub byte_at : Target → List ℕ → ℕ → Option ℕ
byte_at t m a = cond (leb t.base a && ltb a (t.base + length m)) (Some (get_or m (a - t.base) 0)) None

-- whether the four bytes from an address on are in memory
abbrev pub in_memory : Target → List ℕ → ℕ → Bool
in_memory t m a = leb t.base a && leb (a + 4) (t.base + length m)

-- the word at an address that is in memory
abbrev pub load : Target → List ℕ → ℕ → ℕ
load t m a = le_word m (a - t.base)

-- the memory with a word at such an address
abbrev pub store : Target → List ℕ → ℕ → ℕ → List ℕ
store t m a w = put_word m (a - t.base) w

-- the word at any address, or that memory does not have all of it
abbrev pub loaded : Target → List ℕ → ℕ → Option ℕ
loaded t m a = cond (in_memory t m a) (Some (load t m a)) None

-- the memory after a store at any address: as it was where it does not have the whole word
abbrev pub stored : Target → List ℕ → ℕ → ℕ → List ℕ
stored t m a w = cond (in_memory t m a) (store t m a w) m
