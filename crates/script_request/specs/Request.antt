-- The calls of a script and their arguments (01: The result of one call, the table of calls; The script): from a call's number
-- and the bytes behind it to the call and what it is lent.
use Rattle.std.specs.Prelude.{ℕ, ◌%◌, ◌/◌, ◌-◌, Bool, true, false, ◌&&◌, List, [], ◌∷◌, eqb, leb, length, replicate, drop, get_or, Option, Some, None}
use Rattle.call_connect.specs.declared.ConnectCall.TheVariants as N
use Rattle.call_memory.specs.declared.MemoryCall.TheVariants as M
use Rattle.call_core.specs.declared.Function.{Function}
use Rattle.call_core.specs.declared.CallFrame.{CallFrame}
use Rattle.call_core.specs.declared.CoreCall.TheVariants as K
use Rattle.call_fpb.specs.declared.FpbCall.TheVariants as P
use Rattle.call_nrf.specs.declared.NrfCall.TheVariants as F
use Rattle.engine_calls.specs.declared.EngineCall.{EngineCall}
use Rattle.engine_calls.specs.declared.EngineCall.TheVariants as E
use Rattle.script_form.specs.BigEndian.{byte, half, word, row}
use Rattle.script_request.specs.declared.Buffer.{Buffer}
use Rattle.script_request.specs.declared.Buffer.TheVariants as B
use Rattle.script_request.specs.declared.Request.{Request}

-- none, which is malformed, unless the test holds
abbrev pub only : Bool → Option Request → Option Request
only true r = r
only false r = None

-- arguments of exactly `size` bytes
abbrev pub fixed : List ℕ → ℕ → EngineCall → Buffer → Option Request
fixed a size c b = only (eqb (length a) size) (Some (record { call = c; buffer = b }))

-- the same for a call that is lent nothing
abbrev pub plain : List ℕ → ℕ → EngineCall → Option Request
plain a size c = fixed a size c B.Nothing

-- `size` bytes, a multiple of 4, and the rest of the record: whole words, or bytes behind an address
abbrev pub words_follow : List ℕ → ℕ → EngineCall → Option Request
words_follow a size c = only (leb size (length a) && eqb (length a % 4) 0) (Some (record { call = c; buffer = B.GivenWords size }))

abbrev pub bytes_follow : List ℕ → EngineCall → Option Request
bytes_follow a c = only (leb 4 (length a)) (Some (record { call = c; buffer = B.GivenBytes }))

-- call 11: at most 8,192 words
abbrev pub read_words : List ℕ → ℕ → ℕ → Option Request
read_words a addr count = only (leb count 8192) (fixed a 6 (E.Memory (M.ReadWords addr)) (B.Words count))

-- the function of calls 23 and 25
abbrev pub function_of : List ℕ → Function
function_of a =
    record { fn_addr = word a 0; a0 = word a 4; a1 = word a 8; a2 = word a 12; a3 = word a 16; sp = word a 20; trampoline = word a 24 }

-- the frame of call 24
abbrev pub call_frame_of : List ℕ → CallFrame
call_frame_of a =
    record { r0 = word a 0; r1 = word a 4; r2 = word a 8; r3 = word a 12; sp = word a 16; lr = word a 20; pc = word a 24; xpsr = word a 28 }

-- The calls by number, each with the size of its arguments. Call 24's frame stands before its polls; in calls 32 and 35 the polls
-- stand before the words.
abbrev pub rows : List ℕ → List (Option Request)
rows a =
    None ∷
    -- 1 to 5
    plain a 4 (E.Connect (N.ConnectMultidrop (word a 0))) ∷
    plain a 0 (E.Connect N.ProbeSwd) ∷
    plain a 0 (E.Connect N.ConnectSwd) ∷
    plain a 4 (E.Connect (N.ResetPulse (word a 0))) ∷
    plain a 4 (E.Connect (N.Reselect (word a 0))) ∷
    -- 6 to 8
    plain a 1 (E.Memory (M.SetApsel (byte a 0))) ∷
    plain a 1 (E.Memory (M.ApRegRead (byte a 0))) ∷
    plain a 5 (E.Memory (M.ApRegWrite (byte a 0) (word a 1))) ∷
    -- 9 to 14
    plain a 4 (E.Memory (M.ReadWord (word a 0))) ∷
    plain a 8 (E.Memory (M.WriteWord (word a 0) (word a 4))) ∷
    read_words a (word a 0) (half a 4) ∷
    words_follow a 4 (E.Memory (M.WriteWords (word a 0))) ∷
    fixed a 6 (E.Memory (M.ReadMem (word a 0))) (B.Bytes (half a 4)) ∷
    bytes_follow a (E.Memory (M.WriteMem (word a 0))) ∷
    -- 15 to 21
    plain a 0 (E.Core K.DebugEnable) ∷
    plain a 0 (E.Core K.Halt) ∷
    plain a 0 (E.Core K.Resume) ∷
    plain a 0 (E.Core K.Step) ∷
    plain a 0 (E.Core K.IsHalted) ∷
    plain a 1 (E.Core (K.ReadCoreReg (byte a 0))) ∷
    plain a 5 (E.Core (K.WriteCoreReg (byte a 0) (word a 1))) ∷
    -- 22 to 25
    plain a 2 (E.Core (K.RomFuncLookup (byte a 0) (byte a 1))) ∷
    fixed a 28 (E.Core (K.StartFunction (function_of a))) B.Frame ∷
    plain a 36 (E.Core (K.FinishFunction (call_frame_of a) (word a 32))) ∷
    plain a 32 (E.Core (K.CallFunction (function_of a) (word a 28))) ∷
    -- 26 to 28
    plain a 4 (E.Fpb (P.HwBreakpointSet (word a 0))) ∷
    plain a 4 (E.Fpb (P.HwBreakpointClear (word a 0))) ∷
    plain a 4 (E.Fpb (P.HwBreakpointAt (word a 0))) ∷
    -- 29 to 32
    plain a 0 (E.Nrf F.Nrf52ApprotectStatus) ∷
    plain a 4 (E.Nrf (F.Nrf52EraseAll (word a 0))) ∷
    plain a 8 (E.Nrf (F.Nrf52ErasePage (word a 0) (word a 4))) ∷
    words_follow a 8 (E.Nrf (F.Nrf52Program (word a 0) (word a 4))) ∷
    -- 33 to 35
    plain a 0 (E.Nrf F.Nrf54ApprotectStatus) ∷
    plain a 4 (E.Nrf (F.Nrf54EraseAll (word a 0))) ∷
    words_follow a 8 (E.Nrf (F.Nrf54Program (word a 0) (word a 4))) ∷ []

unfoldable pub request_of : ℕ → List ℕ → Option Request
request_of number a = get_or (rows a) number None

-- the words and the bytes that a call finds: zeros, or the rest of its record
unfoldable pub words_of : Buffer → List ℕ → List ℕ
words_of B.Nothing a = []
words_of (B.Words n) a = replicate n 0
words_of (B.Bytes n) a = []
words_of (B.GivenWords size) a = row (word a) 4 ((length a - size) / 4) size
words_of B.GivenBytes a = []
words_of B.Frame a = []

unfoldable pub bytes_of : Buffer → List ℕ → List ℕ
bytes_of b a =
    elim b [ B.Bytes n ↦ replicate n 0 | B.GivenBytes ↦ drop 4 a | B.Nothing ↦ [] | B.Words n ↦ [] | B.GivenWords size ↦ [] | B.Frame ↦ [] ]
