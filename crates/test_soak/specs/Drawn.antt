-- What the generator draws: a multiplicative generator modulo a prime just below 2^32.
use Rattle.std.specs.Prelude.{ℕ, zero, suc, ◌*◌, ◌%◌}

-- number k after x; x is number 0
unfoldable pub drawn : ℕ → ℕ → ℕ
drawn x zero = x
drawn x (suc k) = drawn x k * 1588635695 % 4294967291
