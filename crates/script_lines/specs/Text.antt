-- Numbers as text (01: The script): decimal without padding, hexadecimal in capitals, as codes of ASCII.
use Rattle.std.specs.Prelude.{ℕ, zero, suc, ◌+◌, ◌/◌, ◌%◌, cond, List, [], ◌∷◌, ◌++◌, ltb}

abbrev pub space : ℕ
space = 0x20

abbrev pub newline : ℕ
newline = 0x0A

-- a digit below 16: `0` to `9`, then `A` to `F`
abbrev pub digit : ℕ → ℕ
digit d = cond (ltb d 10) (0x30 + d) (0x37 + d)

-- the decimal digits of n, of which there are at most k
unfoldable pub digits : ℕ → ℕ → List ℕ
digits zero n = []
digits (suc k) n = cond (ltb n 10) (digit n ∷ []) (digits k (n / 10) ++ (digit (n % 10) ∷ []))

-- ten are enough for a number of 32 bits, as all numbers of a listing are
abbrev pub decimal : ℕ → List ℕ
decimal n = digits 10 n

-- the last k hexadecimal digits of n, zeros in front too
unfoldable pub hex : ℕ → ℕ → List ℕ
hex zero n = []
hex (suc k) n = hex k (n / 16) ++ (digit (n % 16) ∷ [])

abbrev pub hex_byte : ℕ → List ℕ
hex_byte b = hex 2 b

abbrev pub hex_word : ℕ → List ℕ
hex_word w = hex 8 w

-- each item of a list by f, run together
unfoldable pub together : {A : Type 0} → (A → List ℕ) → List A → List ℕ
together f [] = []
together f (x ∷ xs) = f x ++ together f xs
