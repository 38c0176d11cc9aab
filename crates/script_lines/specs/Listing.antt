-- The lines that a script prints (01: The script): a line for each transport call, the result's line, the line `D`; and the
-- listing of a run, which they make.
use Rattle.std.specs.Prelude.{ℕ, zero, suc, ◌+◌, cond, List, [], ◌∷◌, ◌++◌, map, leb, length}
use Rattle.wire.specs.Bytes.{handed, pattern_bits}
use Rattle.wire.specs.declared.Call.{Call}
use Rattle.wire.specs.declared.Call.TheVariants as C
use Rattle.wire_numbers.specs.declared.CallEnding.{CallEnding}
use Rattle.wire_numbers.specs.Log.{call_of}
use Rattle.script_lines.specs.Text.{space, newline, decimal, hex, hex_byte, hex_word, together}
use Rattle.script_lines.specs.declared.Shown.{Shown}
use Rattle.script_lines.specs.declared.Shown.TheVariants as S

-- a letter, a number of bits in decimal, and all bytes handed over
abbrev pub bits_text : ℕ → ℕ → List ℕ → List ℕ
bits_text letter bits bytes = letter ∷ space ∷ (decimal bits ++ (space ∷ together hex_byte bytes))

-- a transport call: T its request digit and data; C and O no more; Q and B as above; P output, select and wait
abbrev pub call_text : Call → List ℕ
call_text (C.Transfer request word) = 0x54 ∷ space ∷ (hex 1 request ++ (space ∷ hex_word word))
call_text C.Connect = 0x43 ∷ []
call_text (C.Sequence p) = bits_text 0x51 (pattern_bits p) (handed (C.Sequence p))
call_text (C.Pins output select wait) = 0x50 ∷ space ∷ (hex_byte output ++ (space ∷ (hex_byte select ++ (space ∷ hex_word wait))))
call_text (C.WriteBits bits word) = bits_text 0x42 bits (handed (C.WriteBits bits word))
call_text C.OutputEnable = 0x4F ∷ []

abbrev pub call_line : ℕ → Call → List ℕ
call_line number c = decimal number ++ (space ∷ (call_text c ++ (newline ∷ [])))

-- one line for each call, the first of them with this number
unfoldable pub call_lines : ℕ → List Call → List ℕ
call_lines number [] = []
call_lines number (c ∷ cs) = call_line number c ++ call_lines (suc number) cs

-- 01's result number in decimal, the value in eight digits
abbrev pub result_line : CallEnding → List ℕ
result_line e = decimal e.number ++ (space ∷ (hex_word e.value ++ (newline ∷ [])))

-- what is printed for bytes that are no script: 01's Script is 13
abbrev pub malformed_text : List ℕ
malformed_text = result_line (record { number = 13; value = 0 })

-- `D`, and a space if n numbers follow
abbrev pub data_start : ℕ → List ℕ
data_start zero = 0x44 ∷ []
data_start (suc n) = 0x44 ∷ space ∷ []

-- `D` and the buffer, each number by f; `D` alone if it is empty
abbrev pub data_line : {A : Type 0} → (A → List ℕ) → List A → List ℕ
data_line f xs = data_start (length xs) ++ (together f xs ++ (newline ∷ []))

abbrev pub shown_text : Shown → List ℕ → List ℕ → List ℕ
shown_text S.Nothing words buf = []
shown_text S.Words words buf = data_line hex_word words
shown_text S.Bytes words buf = data_line hex_byte buf

abbrev pub run_lines : List ℕ → CallEnding → Shown → List ℕ → List ℕ → List ℕ
run_lines log e s words buf = call_lines 1 (map call_of log) ++ (result_line e ++ shown_text s words buf)

-- the listing of a run, from its log and what it left in the buffers; 2^32 numbers or more are not listed
unfoldable pub listed : List ℕ → CallEnding → Shown → List ℕ → List ℕ → List ℕ
listed log e s words buf = cond (leb (length log + length words + length buf) 0xFFFFFFFF) (run_lines log e s words buf) []
