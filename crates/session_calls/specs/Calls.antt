-- The calls of a session (01: "The session"; believed): which call of the engine each is, and one table of what the session knows of it
-- before it starts.
use Rattle.std.specs.Prelude.{ℕ, Bool, true, false}
use Rattle.call_connect.specs.declared.ConnectCall.TheVariants as N
use Rattle.call_memory.specs.declared.MemoryCall.TheVariants as M
use Rattle.call_fpb.specs.declared.FpbCall.{FpbCall}
use Rattle.call_fpb.specs.declared.FpbCall.TheVariants as B
use Rattle.engine_calls.specs.declared.EngineCall.{EngineCall}
use Rattle.engine_calls.specs.declared.EngineCall.TheVariants as C
use Rattle.session_phase.specs.Phase.{connects}
use Rattle.session_phase.specs.declared.Kind.{Kind}
use Rattle.session_phase.specs.declared.Kind.TheVariants as K
use Rattle.session_rules.specs.declared.Align.{Align}
use Rattle.session_rules.specs.declared.Align.TheVariants as A
use Rattle.session_rules.specs.declared.Facts.{Facts}
use Rattle.session_calls.specs.declared.SessionCall.{SessionCall}
use Rattle.session_calls.specs.declared.SessionCall.TheVariants as S

-- calls 3, 9, 10 and 13 to 28 of the engine
abbrev pub engine_call : SessionCall → EngineCall
engine_call S.ConnectSwd = C.Connect N.ConnectSwd
engine_call (S.ReadWord addr) = C.Memory (M.ReadWord addr)
engine_call (S.WriteWord addr word) = C.Memory (M.WriteWord addr word)
engine_call (S.ReadMem addr) = C.Memory (M.ReadMem addr)
engine_call (S.WriteMem addr) = C.Memory (M.WriteMem addr)
engine_call (S.Core c) = C.Core c
engine_call (S.Fpb c) = C.Fpb c

-- where a breakpoint is set, cleared or asked for
abbrev pub breakpoint : FpbCall → ℕ
breakpoint (B.HwBreakpointSet addr) = addr
breakpoint (B.HwBreakpointClear addr) = addr
breakpoint (B.HwBreakpointAt addr) = addr

abbrev pub plain : Align → ℕ → Bool → Facts
plain align addr spans = record { kind = K.Plain; align = align; addr = addr; spans = spans }

-- The table. 9 and 10 want a multiple of 4, 26 to 28 an even address (02, h): a Thumb function pointer has bit 0 set, and no instruction
-- lies there. The buffer of 13 and 14 lies from the address on.
abbrev pub facts_of : SessionCall → Facts
facts_of S.ConnectSwd = record { kind = K.Connect; align = A.Any; addr = 0; spans = false }
facts_of (S.ReadWord addr) = plain A.Word addr false
facts_of (S.WriteWord addr word) = plain A.Word addr false
facts_of (S.ReadMem addr) = plain A.Any addr true
facts_of (S.WriteMem addr) = plain A.Any addr true
facts_of (S.Core c) = plain A.Any 0 false
facts_of (S.Fpb c) = plain A.Half (breakpoint c) false

abbrev pub kind_of : SessionCall → Kind
kind_of c = (facts_of c).kind

abbrev pub is_connect : SessionCall → Bool
is_connect c = connects (kind_of c)
