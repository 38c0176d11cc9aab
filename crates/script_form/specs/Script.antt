-- What is a script (01: The script): a version byte, the record of the call, the records of the answers; at most 65,536 bytes.
-- A record is a length of 2 bytes and so many bytes.
use Rattle.std.specs.Prelude.{ℕ, zero, suc, ◌+◌, ◌-◌, ◌*◌, ◌/◌, ◌%◌, Bool, true, ◌&&◌, ◌||◌, not, List, eqb, leb, length, take, drop}
use Rattle.script_form.specs.BigEndian.{byte, half, word, row}

-- the first record stands behind the version byte and ends here; its first byte is the call's number, the others its arguments
abbrev pub call_end : List ℕ → ℕ
call_end xs = 3 + half xs 1

abbrev pub arguments : List ℕ → List ℕ
arguments xs = take (call_end xs - 4) (drop 4 xs)

-- the record of an answer takes 7 bytes: its length, a code and a value
abbrev pub answer_count : List ℕ → ℕ
answer_count xs = (length xs - call_end xs) / 7

-- a record of 5 bytes, a code up to 3, and for code 1, SwdError, a value up to 255
abbrev pub good_answer : List ℕ → ℕ → Bool
good_answer xs i = eqb (half xs i) 5 && (leb (byte xs (i + 2)) 3 && (not (eqb (byte xs (i + 2)) 1) || leb (word xs (i + 3)) 255))

-- n records of answers from place i on
unfoldable pub good_answers : List ℕ → ℕ → ℕ → Bool
good_answers xs zero i = true
good_answers xs (suc n) i = good_answer xs i && good_answers xs n (i + 7)

-- an answer as `answer_of` reads it: the code times 2^32, and the value
abbrev pub answer_at : List ℕ → ℕ → ℕ
answer_at xs i = byte xs (i + 2) * 0x100000000 + word xs (i + 3)

abbrev pub answers : List ℕ → List ℕ
answers xs = row (answer_at xs) 7 (answer_count xs) (call_end xs)

unfoldable pub well_formed : List ℕ → Bool
well_formed xs =
    leb (length xs) 65536 && (eqb (byte xs 0) 1 && (leb 1 (half xs 1) && (leb (call_end xs) (length xs)
    && (eqb ((length xs - call_end xs) % 7) 0 && good_answers xs (answer_count xs) (call_end xs)))))
