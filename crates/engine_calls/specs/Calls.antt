-- The engine's calls as jobs over what the caller lends.
use Rattle.std.specs.Prelude.{ℕ, Bool, true, false, cond, List, [], ◌∷◌, length, get_or, replicate}
pub use Rattle.std.specs.Prelude.{cond as pick}
use Rattle.wire.specs.Wire.{Wire, memory_of, Ending, succeeds}
use Rattle.wire.specs.declared.Remembered.{Remembered}
use Rattle.call.specs.Job.{Job, exec}
use Rattle.call_connect.specs.Connect.{connect_job}
use Rattle.call_memory.specs.Memory.{memory_job}
use Rattle.call_memory.specs.declared.MemoryCall.{MemoryCall}
use Rattle.call_memory.specs.declared.MemoryCall.TheVariants as M
use Rattle.call_core.specs.Function.{core_job}
use Rattle.call_core.specs.declared.CoreCall.{CoreCall}
use Rattle.call_core.specs.declared.CoreCall.TheVariants as K
use Rattle.call_fpb.specs.Breakpoint.{fpb_job}
use Rattle.call_nrf.specs.Nrf.{nrf_job}
use Rattle.call_nrf.specs.declared.NrfCall.{NrfCall}
use Rattle.call_nrf.specs.declared.NrfCall.TheVariants as N
use Rattle.engine_calls.specs.declared.EngineCall.{EngineCall}
use Rattle.engine_calls.specs.declared.EngineCall.TheVariants as C

abbrev pub job_of : EngineCall → ℕ → ℕ → Job
job_of (C.Connect c) words bytes = connect_job c
job_of (C.Memory c) words bytes = memory_job c words bytes
job_of (C.Core c) words bytes = core_job c
job_of (C.Fpb c) words bytes = fpb_job c
job_of (C.Nrf c) words bytes = nrf_job c words

-- calls 11, 12, 32 and 35 run over the caller's words; the others over a room of 192 words
abbrev pub lent_words : MemoryCall → Bool
lent_words (M.SetApsel apsel) = false
lent_words (M.ApRegRead addr) = false
lent_words (M.ApRegWrite addr word) = false
lent_words (M.ReadWord addr) = false
lent_words (M.WriteWord addr word) = false
lent_words (M.ReadWords addr) = true
lent_words (M.WriteWords addr) = true
lent_words (M.ReadMem addr) = false
lent_words (M.WriteMem addr) = false

abbrev pub lent_flash : NrfCall → Bool
lent_flash N.Nrf52ApprotectStatus = false
lent_flash (N.Nrf52EraseAll polls) = false
lent_flash (N.Nrf52ErasePage addr polls) = false
lent_flash (N.Nrf52Program addr polls) = true
lent_flash N.Nrf54ApprotectStatus = false
lent_flash (N.Nrf54EraseAll polls) = false
lent_flash (N.Nrf54Program addr polls) = true

abbrev pub lent : EngineCall → Bool
lent c = elim c [ C.Memory q ↦ lent_words q | C.Nrf q ↦ lent_flash q | C.Connect _ ↦ false | C.Core _ ↦ false | C.Fpb _ ↦ false ]

-- the tree of transport calls of a call, from what is remembered, a room of 192 words, the caller's words and buffer
abbrev pub call_tree : EngineCall → Remembered → List ℕ → List ℕ → List ℕ → Wire
call_tree c r room words buf = exec (job_of c (length words) (length buf)) (memory_of r (cond (lent c) words room) buf)

-- the room of a call that is run whole
abbrev pub zero_room : List ℕ
zero_room = replicate 192 0

-- call 23 leaves a frame, and no other call
abbrev pub core_leaves : CoreCall → Bool
core_leaves K.DebugEnable = false
core_leaves K.Halt = false
core_leaves K.Resume = false
core_leaves K.Step = false
core_leaves K.IsHalted = false
core_leaves (K.ReadCoreReg reg) = false
core_leaves (K.WriteCoreReg reg value) = false
core_leaves (K.RomFuncLookup first second) = false
core_leaves (K.StartFunction f) = true
core_leaves (K.FinishFunction frame polls) = false
core_leaves (K.CallFunction f polls) = false

abbrev pub leaves_frame : EngineCall → Bool
leaves_frame c = elim c [ C.Core q ↦ core_leaves q | C.Connect _ ↦ false | C.Memory _ ↦ false | C.Fpb _ ↦ false | C.Nrf _ ↦ false ]

-- the room's first eight words
abbrev pub frame_of : List ℕ → List ℕ
frame_of ws =
    get_or ws 0 0 ∷ get_or ws 1 0 ∷ get_or ws 2 0 ∷ get_or ws 3 0 ∷ get_or ws 4 0 ∷ get_or ws 5 0 ∷ get_or ws 6 0 ∷ get_or ws 7 0 ∷ []

-- the frame afterwards; it is handed over only by a call that succeeded
abbrev pub leave : Bool → Bool → List ℕ → List ℕ → List ℕ
leave true ok room frame = cond ok (frame_of room) frame
leave false ok room frame = frame

-- After a run that ended with e and left ws in what it runs over: the caller's words and his frame, from what they were before.
abbrev pub words_left : EngineCall → List ℕ → List ℕ → List ℕ
words_left c ws words₀ = cond (lent c) ws words₀

abbrev pub frame_left : EngineCall → Ending → List ℕ → List ℕ → List ℕ
frame_left c e ws frame₀ = leave (leaves_frame c) (succeeds e) ws frame₀
