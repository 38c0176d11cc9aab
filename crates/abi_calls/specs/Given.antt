-- The calls as they come from another language (01: The result of one call, the table of calls): from a call's number and one word for
-- each argument to the call. Words and bytes that a call takes or fills are lent beside them.
use Rattle.std.specs.Prelude.{ℕ, Bool, true, false, List, [], ◌∷◌, eqb, leb, length, get_or, Option, None, Some}
use Rattle.call_connect.specs.declared.ConnectCall.{ConnectCall}
use Rattle.call_connect.specs.declared.ConnectCall.TheVariants as N
use Rattle.call_memory.specs.declared.MemoryCall.{MemoryCall}
use Rattle.call_memory.specs.declared.MemoryCall.TheVariants as M
use Rattle.call_core.specs.Frame.{function_of, frame_of}
use Rattle.call_core.specs.declared.CoreCall.TheVariants as K
use Rattle.call_fpb.specs.declared.FpbCall.TheVariants as P
use Rattle.call_nrf.specs.declared.NrfCall.TheVariants as F
use Rattle.engine_calls.specs.declared.EngineCall.{EngineCall}
use Rattle.engine_calls.specs.declared.EngineCall.TheVariants as E
use Rattle.session_calls.specs.declared.SessionCall.{SessionCall}
use Rattle.session_calls.specs.declared.SessionCall.TheVariants as S

-- word i of the arguments
abbrev pub word : List ℕ → ℕ → ℕ
word a i = get_or a i 0

-- no call unless the test holds
abbrev pub only : Bool → Option EngineCall → Option EngineCall
only true g = g
only false g = None

-- exactly so many words
abbrev pub takes : List ℕ → ℕ → EngineCall → Option EngineCall
takes a count c = only (eqb (length a) count) (Some c)

-- word i fits a byte
abbrev pub narrow : List ℕ → ℕ → Option EngineCall → Option EngineCall
narrow a i g = only (leb (word a i) 255) g

-- The calls by number, each with the number of its arguments. Call 24's frame stands before its polls; in calls 32 and 35 the address
-- stands before them.
abbrev pub rows : List ℕ → List (Option EngineCall)
rows a =
    None ∷
    -- 1 to 5
    takes a 1 (E.Connect (N.ConnectMultidrop (word a 0))) ∷
    takes a 0 (E.Connect N.ProbeSwd) ∷
    takes a 0 (E.Connect N.ConnectSwd) ∷
    takes a 1 (E.Connect (N.ResetPulse (word a 0))) ∷
    takes a 1 (E.Connect (N.Reselect (word a 0))) ∷
    -- 6 to 8
    narrow a 0 (takes a 1 (E.Memory (M.SetApsel (word a 0)))) ∷
    narrow a 0 (takes a 1 (E.Memory (M.ApRegRead (word a 0)))) ∷
    narrow a 0 (takes a 2 (E.Memory (M.ApRegWrite (word a 0) (word a 1)))) ∷
    -- 9 to 14
    takes a 1 (E.Memory (M.ReadWord (word a 0))) ∷
    takes a 2 (E.Memory (M.WriteWord (word a 0) (word a 1))) ∷
    takes a 1 (E.Memory (M.ReadWords (word a 0))) ∷
    takes a 1 (E.Memory (M.WriteWords (word a 0))) ∷
    takes a 1 (E.Memory (M.ReadMem (word a 0))) ∷
    takes a 1 (E.Memory (M.WriteMem (word a 0))) ∷
    -- 15 to 21
    takes a 0 (E.Core K.DebugEnable) ∷
    takes a 0 (E.Core K.Halt) ∷
    takes a 0 (E.Core K.Resume) ∷
    takes a 0 (E.Core K.Step) ∷
    takes a 0 (E.Core K.IsHalted) ∷
    narrow a 0 (takes a 1 (E.Core (K.ReadCoreReg (word a 0)))) ∷
    narrow a 0 (takes a 2 (E.Core (K.WriteCoreReg (word a 0) (word a 1)))) ∷
    -- 22 to 25
    narrow a 0 (narrow a 1 (takes a 2 (E.Core (K.RomFuncLookup (word a 0) (word a 1))))) ∷
    takes a 7 (E.Core (K.StartFunction (function_of a))) ∷
    takes a 9 (E.Core (K.FinishFunction (frame_of a) (word a 8))) ∷
    takes a 8 (E.Core (K.CallFunction (function_of a) (word a 7))) ∷
    -- 26 to 28
    takes a 1 (E.Fpb (P.HwBreakpointSet (word a 0))) ∷
    takes a 1 (E.Fpb (P.HwBreakpointClear (word a 0))) ∷
    takes a 1 (E.Fpb (P.HwBreakpointAt (word a 0))) ∷
    -- 29 to 32
    takes a 0 (E.Nrf F.Nrf52ApprotectStatus) ∷
    takes a 1 (E.Nrf (F.Nrf52EraseAll (word a 0))) ∷
    takes a 2 (E.Nrf (F.Nrf52ErasePage (word a 0) (word a 1))) ∷
    takes a 2 (E.Nrf (F.Nrf52Program (word a 0) (word a 1))) ∷
    -- 33 to 35
    takes a 0 (E.Nrf F.Nrf54ApprotectStatus) ∷
    takes a 1 (E.Nrf (F.Nrf54EraseAll (word a 0))) ∷
    takes a 2 (E.Nrf (F.Nrf54Program (word a 0) (word a 1))) ∷ []

unfoldable pub engine_call_of : ℕ → List ℕ → Option EngineCall
engine_call_of number a = get_or (rows a) number None

-- the calls that a session admits: 3, 9, 10, 13 to 28
abbrev pub connect_admitted : ConnectCall → Option SessionCall
connect_admitted (N.ConnectMultidrop targetsel) = None
connect_admitted N.ProbeSwd = None
connect_admitted N.ConnectSwd = Some S.ConnectSwd
connect_admitted (N.ResetPulse us) = None
connect_admitted (N.Reselect targetsel) = None

abbrev pub memory_admitted : MemoryCall → Option SessionCall
memory_admitted (M.SetApsel apsel) = None
memory_admitted (M.ApRegRead addr) = None
memory_admitted (M.ApRegWrite addr w) = None
memory_admitted (M.ReadWord addr) = Some (S.ReadWord addr)
memory_admitted (M.WriteWord addr w) = Some (S.WriteWord addr w)
memory_admitted (M.ReadWords addr) = None
memory_admitted (M.WriteWords addr) = None
memory_admitted (M.ReadMem addr) = Some (S.ReadMem addr)
memory_admitted (M.WriteMem addr) = Some (S.WriteMem addr)

abbrev pub call_admitted : EngineCall → Option SessionCall
call_admitted (E.Connect c) = connect_admitted c
call_admitted (E.Memory c) = memory_admitted c
call_admitted (E.Core c) = Some (S.Core c)
call_admitted (E.Fpb c) = Some (S.Fpb c)
call_admitted (E.Nrf c) = None

abbrev pub admitted : Option EngineCall → Option SessionCall
admitted None = None
admitted (Some c) = call_admitted c

abbrev pub session_call_of : ℕ → List ℕ → Option SessionCall
session_call_of number a = admitted (engine_call_of number a)
