-- The text of a transport call in numbers is that of the transport call. Serves the proofs.
use Rattle.std.specs.Prelude.{ℕ, ◌+◌, ◌-◌, ◌/◌, ◌≤◌, min, cond, ◌||◌, ◌≡◌, refl, List, [], ◌∷◌, ◌++◌, eqb, length, take, replicate}
use Rattle.std.proofs.Common.{arith, length-take, take_at}
use Rattle.wire.specs.Bytes.{handed, padded, pattern_bytes, le_bytes}
use Rattle.wire.specs.declared.Pattern.{Pattern}
use Rattle.wire.specs.declared.Pattern.TheVariants as P
use Rattle.wire.specs.declared.Call.{Call}
use Rattle.wire.specs.declared.Call.TheVariants as C
use Rattle.wire_numbers.specs.declared.TransportCall.{TransportCall}
use Rattle.wire_numbers.specs.Numbers.{numbers_of}
use Rattle.script_lines.specs.Text.{space, newline, decimal}
use Rattle.script_lines.specs.Listing.{bits_text, call_text, call_line}

-- a letter, its bits, and those of the sixteen bytes that are handed over
abbrev pub handed_text : TransportCall → List ℕ → List ℕ
handed_text c bytes = bits_text c.kind c.bits (take (min c.len 16) bytes)

-- a transport call by its letter
unfoldable pub numbers_text : TransportCall → List ℕ → List ℕ
numbers_text c bytes =
    cond (eqb c.kind 0x54) (call_text (C.Transfer c.request c.word))
    (cond (eqb c.kind 0x50) (call_text (C.Pins c.output c.select c.word))
    (cond (eqb c.kind 0x43 || eqb c.kind 0x4F) (c.kind ∷ [])
    (handed_text c bytes)))

abbrev pub numbers_line : ℕ → TransportCall → List ℕ → List ℕ
numbers_line number c bytes = decimal number ++ (space ∷ (numbers_text c bytes ++ (newline ∷ [])))

pattern_most : (p : Pattern) → length (pattern_bytes p) ≤ 16
pattern_most P.ResetHigh = omega arith
pattern_most P.ResetIdle = omega arith
pattern_most P.JtagToSwd = omega arith
pattern_most P.SwdToDormant = omega arith
pattern_most P.AlertHigh = omega arith
pattern_most P.SelectionAlert = omega arith
pattern_most P.AlertIdle = omega arith
pattern_most P.SwdActivation = omega arith

-- the bytes handed over are the first of the sixteen
first : (bs : List ℕ) → length bs ≤ 16 → take (min (length bs) 16) (padded bs) ≡ bs
first bs h = rw (whole (length bs) h) (take_at bs (replicate (16 - length bs) 0) (length bs) refl)
  where
    whole : (n : ℕ) → n ≤ 16 → min n 16 ≡ n
    whole n h = omega arith

pub numbers_call : (c : Call) → numbers_text (numbers_of c) (padded (handed c)) ≡ call_text c
unfolding numbers_text
numbers_call (C.Transfer request word) = refl
numbers_call C.Connect = refl
numbers_call (C.Sequence p) = rw (first (pattern_bytes p) (pattern_most p))
numbers_call (C.Pins output select wait) = refl
numbers_call (C.WriteBits bits word) = rw (first (handed (C.WriteBits bits word)) (omega (arith, length-take ((bits + 7) / 8) (le_bytes word))))
numbers_call C.OutputEnable = refl

pub numbers_line_lem : (number : ℕ) (c : Call) (n : TransportCall) (bytes : List ℕ) → n ≡ numbers_of c → bytes ≡ padded (handed c)
    → numbers_line number n bytes ≡ call_line number c
numbers_line_lem number c n bytes hn hb = rw (hn, hb, numbers_call c)
