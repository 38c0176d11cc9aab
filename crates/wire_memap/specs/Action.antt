-- Actions: what an engine does before it goes on. An action is given what follows it, so that actions chain in `do` blocks;
-- a value goes on to the next line, an error ends the action, as the Rust's `?` does.
use Rattle.std.specs.Prelude.{ℕ, Ok, Err}
pub use Rattle.std.specs.Prelude.{cond}
use Rattle.wire.specs.Wire.{Wire, Memory}
use Rattle.wire_transfer.specs.Transfer.{transfer}
use Rattle.wire.specs.declared.Remembered.{Remembered}
use Rattle.wire.specs.Outcomes.{Outcome}

-- what follows: it finds the memory and the outcome
abbrev pub Then : Type 0
Then = Memory → Outcome → Wire

abbrev pub Action : Type 0
Action = Then → Memory → Wire

abbrev pub on_value : (ℕ → Action) → Then → Then
on_value f k m (Ok v) = f v k m
on_value f k m (Err e) = k m (Err e)

infixr 1 ◌>>=◌ ◌>>◌
abbrev pub ◌>>=◌ : Action → (ℕ → Action) → Action
◌>>=◌ p f k m = p (on_value f k) m

abbrev pub ◌>>◌ : Action → Action → Action
◌>>◌ p q k m = p (on_value (λ (_ : ℕ). q) k) m

abbrev pub return : ℕ → Action
return v k m = k m (Ok v)

-- one transfer, at most 65 tries
abbrev pub transferring : ℕ → ℕ → Action
transferring request word k m = transfer m request word (k m)

abbrev pub remembering : Memory → Remembered → Memory
remembering m r = record { remembered = r; words = m.words; buf = m.buf }

-- what is remembered changes
abbrev pub remember : (Remembered → Remembered) → Action
remember f k m = k (remembering m (f m.remembered)) (Ok 0)
