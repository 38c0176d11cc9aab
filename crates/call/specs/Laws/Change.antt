-- What is remembered, the words and the buffer after a change are together the memory after it. Serves the proofs only.
use Rattle.std.specs.Prelude.{ℕ, Bool, true, false, List, [], ◌≡◌, refl}
use Rattle.std.proofs.Common.{true≢false, sym}
use Rattle.wire.specs.Wire.{memory_of}
use Rattle.wire.specs.declared.Remembered.{Remembered}
use Rattle.call.specs.Change.{fresh, changed}
use Rattle.call.specs.declared.Change.{Change}
use Rattle.call.specs.declared.Change.TheVariants as C

-- what is remembered does not depend on words and buffer, nor these on it
abbrev pub remembered_after : Change → Remembered → Remembered
remembered_after c r = (changed c (memory_of r [] [])).remembered

abbrev pub words_after : Change → List ℕ → List ℕ → List ℕ
words_after c ws b = (changed c (memory_of fresh ws b)).words

abbrev pub buf_after : Change → List ℕ → List ℕ → List ℕ
buf_after c ws b = (changed c (memory_of fresh ws b)).buf

parts : (c : Change) (r : Remembered) (ws b : List ℕ)
    → changed c (memory_of r ws b) ≡ memory_of (remembered_after c r) (words_after c ws b) (buf_after c ws b)
parts C.Nothing r ws b = refl
parts C.New r ws b = refl
parts C.Forget r ws b = refl
parts C.SelectZero r ws b = refl
parts (C.Apsel a) r ws b = refl
parts (C.StoreWords at n) r ws b = refl
parts (C.StorePart at skip count word) r ws b = refl
parts (C.LoadWords at n) r ws b = refl
parts (C.Patch at skip count word) r ws b = refl
parts (C.Put at word) r ws b = refl
parts (C.Registers registers) r ws b = refl
parts (C.Frame registers) r ws b = refl

pub same_memory : (c : Change) (r : Remembered) (ws b : List ℕ) (r₂ : Remembered) (ws₂ b₂ : List ℕ)
    → r₂ ≡ remembered_after c r → ws₂ ≡ words_after c ws b → b₂ ≡ buf_after c ws b → changed c (memory_of r ws b) ≡ memory_of r₂ ws₂ b₂
same_memory c r ws b r₂ ws₂ b₂ p q s = rw (p, q, s) (parts c r ws b)

-- whether a change is none
abbrev pub is_nothing : Change → Bool
is_nothing C.Nothing = true
is_nothing C.New = false
is_nothing C.Forget = false
is_nothing C.SelectZero = false
is_nothing (C.Apsel a) = false
is_nothing (C.StoreWords at n) = false
is_nothing (C.StorePart at skip count word) = false
is_nothing (C.LoadWords at n) = false
is_nothing (C.Patch at skip count word) = false
is_nothing (C.Put at word) = false
is_nothing (C.Registers registers) = false
is_nothing (C.Frame registers) = false

pub nothing_is : (c : Change) → is_nothing c ≡ true → c ≡ C.Nothing
nothing_is C.Nothing h = refl
nothing_is C.New h = absurd (true≢false (sym h))
nothing_is C.Forget h = absurd (true≢false (sym h))
nothing_is C.SelectZero h = absurd (true≢false (sym h))
nothing_is (C.Apsel a) h = absurd (true≢false (sym h))
nothing_is (C.StoreWords at n) h = absurd (true≢false (sym h))
nothing_is (C.StorePart at skip count word) h = absurd (true≢false (sym h))
nothing_is (C.LoadWords at n) h = absurd (true≢false (sym h))
nothing_is (C.Patch at skip count word) h = absurd (true≢false (sym h))
nothing_is (C.Put at word) h = absurd (true≢false (sym h))
nothing_is (C.Registers registers) h = absurd (true≢false (sym h))
nothing_is (C.Frame registers) h = absurd (true≢false (sym h))
