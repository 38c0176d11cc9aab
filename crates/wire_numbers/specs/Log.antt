-- Answers and transport calls as numbers of 64 bits, for lists that are lent.
use Rattle.std.specs.Prelude.{ℕ, ◌+◌, ◌*◌, ◌/◌, ◌%◌, cond, eqb, Ok, Err}
use Rattle.wire.specs.Bytes.{pattern_no, pattern_at}
use Rattle.wire.specs.Outcomes.{Answer}
use Rattle.wire.specs.declared.DapError.TheVariants as A
use Rattle.wire.specs.declared.Call.{Call}
use Rattle.wire.specs.declared.Call.TheVariants as C

-- an answer by 01's code (0 Ok, 1 SwdError, 2 NotSupported, 3 or more other) and its value; an ack is a byte: of SwdError's value the
-- lowest 8 bits count
abbrev pub answer_at : ℕ → ℕ → Answer
answer_at code value =
    cond (eqb code 0) (Ok value) (cond (eqb code 1) (Err (A.SwdError (value % 256))) (cond (eqb code 2) (Err A.NotSupported) (Err A.Other)))

-- the same as one number: the code times 2^32, and the value
abbrev pub answer_of : ℕ → Answer
answer_of x = answer_at (x / 0x100000000) (x % 0x100000000)

-- a transport call: its kind times 2^48, two bytes and a word
abbrev pub code_of : Call → ℕ
code_of (C.Transfer request word) = request * 0x100000000 + word
code_of C.Connect = 0x1000000000000
code_of (C.Sequence p) = 0x2000000000000 + pattern_no p
code_of (C.Pins output select wait) = 0x3000000000000 + (output * 0x10000000000 + (select * 0x100000000 + wait))
code_of (C.WriteBits bits word) = 0x4000000000000 + (bits * 0x100000000 + word)
code_of C.OutputEnable = 0x5000000000000

-- the transport call that a number stands for
abbrev pub call_of : ℕ → Call
call_of x =
    cond (eqb (x / 0x1000000000000) 0) (C.Transfer (x / 0x100000000 % 256) (x % 0x100000000))
    (cond (eqb (x / 0x1000000000000) 1) C.Connect
    (cond (eqb (x / 0x1000000000000) 2) (C.Sequence (pattern_at (x % 0x100000000)))
    (cond (eqb (x / 0x1000000000000) 3) (C.Pins (x / 0x10000000000 % 256) (x / 0x100000000 % 256) (x % 0x100000000))
    (cond (eqb (x / 0x1000000000000) 4) (C.WriteBits (x / 0x100000000 % 256) (x % 0x100000000))
    C.OutputEnable))))
