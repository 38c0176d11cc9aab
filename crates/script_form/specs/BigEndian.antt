-- The numbers of a script: big-endian (01: The result of one call). What is missing reads 0.
use Rattle.std.specs.Prelude.{ℕ, zero, suc, ◌+◌, ◌*◌, List, [], ◌∷◌, get_or}

abbrev pub byte : List ℕ → ℕ → ℕ
byte xs i = get_or xs i 0

-- two bytes from place i on
abbrev pub half : List ℕ → ℕ → ℕ
half xs i = 0x100 * byte xs i + byte xs (i + 1)

-- four bytes from place i on
abbrev pub word : List ℕ → ℕ → ℕ
word xs i = 0x1000000 * byte xs i + 0x10000 * byte xs (i + 1) + 0x100 * byte xs (i + 2) + byte xs (i + 3)

-- n numbers, the first of them at place i, each `size` bytes behind the one before
unfoldable pub row : (ℕ → ℕ) → ℕ → ℕ → ℕ → List ℕ
row f size zero i = []
row f size (suc n) i = f i ∷ row f size n (i + size)
