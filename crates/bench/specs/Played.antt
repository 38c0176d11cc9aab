-- The calls of the benchmark by number, and what each makes of a list of answers on a new engine.
use Rattle.std.specs.Prelude.{ℕ, List, [], ◌∷◌, ◌≡◌, length, replicate, get_or}
use Rattle.wire.specs.Wire.{play, Played}
use Rattle.call.specs.Change.{fresh}
use Rattle.call_connect.specs.declared.ConnectCall.TheVariants.{ConnectSwd}
use Rattle.call_core.specs.declared.CoreCall.TheVariants.{CallFunction}
use Rattle.call_core.specs.declared.Function.{Function}
use Rattle.call_fpb.specs.declared.FpbCall.TheVariants.{HwBreakpointSet}
use Rattle.call_memory.specs.declared.MemoryCall.TheVariants.{ReadMem, WriteMem, ReadWord}
use Rattle.engine_calls.specs.Calls.{call_tree, zero_room}
use Rattle.engine_calls.specs.declared.EngineCall.{EngineCall}
use Rattle.engine_calls.specs.declared.EngineCall.TheVariants.{Connect, Memory, Core, Fpb}
use Rattle.engine_run.specs.Run.{within, logged}

-- a function with no arguments, whose stack and place of return are its own address
abbrev pub at_itself : ℕ → Function
at_itself addr = record { fn_addr = addr; a0 = 0; a1 = 0; a2 = 0; a3 = 0; sp = addr; trampoline = addr }

abbrev pub calls : ℕ → List EngineCall
calls addr =
    Memory (ReadMem addr) ∷ Memory (WriteMem addr) ∷ Memory (ReadWord addr) ∷ Connect ConnectSwd ∷ Fpb (HwBreakpointSet addr) ∷ []

abbrev pub call_no : ℕ → ℕ → EngineCall
call_no n addr = get_or (calls addr) n (Core (CallFunction (at_itself addr) 9))

abbrev pub played_new : EngineCall → ℕ → List ℕ → List ℕ → Played
played_new c budget answers buf = play (call_tree c fresh zero_room (replicate 1 0) buf) (within budget answers)

-- r transport calls were made, and buffer and log are as the call leaves them; buf₀ and log₀ were there before
abbrev pub Counted : EngineCall → ℕ → List ℕ → List ℕ → List ℕ → ℕ → List ℕ → List ℕ → Type 0
Counted c budget answers buf₀ log₀ r buf log =
    (r ≡ length (played_new c budget answers buf₀).calls) × (buf ≡ (played_new c budget answers buf₀).memory.buf)
    × (log ≡ logged log₀ 0 (played_new c budget answers buf₀).calls)
