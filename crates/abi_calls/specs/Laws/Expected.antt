-- What a reader expects of the calls that a session admits: they are the engine's calls that its own calls are, and no others. Nothing
-- depends on it.
use Rattle.std.specs.Prelude.{◌≡◌, refl, Option, None, Some}
use Rattle.session_calls.specs.Calls.{engine_call}
use Rattle.session_calls.specs.declared.SessionCall.{SessionCall}
use Rattle.session_calls.specs.declared.SessionCall.TheVariants as S
use Rattle.call_connect.specs.declared.ConnectCall.TheVariants as N
use Rattle.call_memory.specs.declared.MemoryCall.TheVariants as M
use Rattle.engine_calls.specs.declared.EngineCall.{EngineCall}
use Rattle.engine_calls.specs.declared.EngineCall.TheVariants as E
use Rattle.abi_calls.specs.Given.{call_admitted}

-- every call of a session can be asked for
pub each_admitted : (c : SessionCall) → call_admitted (engine_call c) ≡ Some c
each_admitted S.ConnectSwd = refl
each_admitted (S.ReadWord addr) = refl
each_admitted (S.WriteWord addr w) = refl
each_admitted (S.ReadMem addr) = refl
each_admitted (S.WriteMem addr) = refl
each_admitted (S.Core c) = refl
each_admitted (S.Fpb c) = refl

-- and what is asked for is the engine's call of that number
abbrev Is : EngineCall → Option SessionCall → Type 0
Is e None = Unit {0}
Is e (Some c) = engine_call c ≡ e

pub as_asked : (e : EngineCall) → Is e (call_admitted e)
as_asked (E.Connect (N.ConnectMultidrop targetsel)) = tt
as_asked (E.Connect N.ProbeSwd) = tt
as_asked (E.Connect N.ConnectSwd) = refl
as_asked (E.Connect (N.ResetPulse us)) = tt
as_asked (E.Connect (N.Reselect targetsel)) = tt
as_asked (E.Memory (M.SetApsel apsel)) = tt
as_asked (E.Memory (M.ApRegRead addr)) = tt
as_asked (E.Memory (M.ApRegWrite addr w)) = tt
as_asked (E.Memory (M.ReadWord addr)) = refl
as_asked (E.Memory (M.WriteWord addr w)) = refl
as_asked (E.Memory (M.ReadWords addr)) = tt
as_asked (E.Memory (M.WriteWords addr)) = tt
as_asked (E.Memory (M.ReadMem addr)) = refl
as_asked (E.Memory (M.WriteMem addr)) = refl
as_asked (E.Core c) = refl
as_asked (E.Fpb c) = refl
as_asked (E.Nrf c) = tt
