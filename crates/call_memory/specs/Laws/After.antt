-- What follows each operation of a memory call. Serves the proofs only.
use Rattle.std.specs.Prelude.{ℕ, ◌-◌, ◌*◌, ◌%◌, Bool, true, false, List, [], ◌∷◌, get_or, Ok, Err}
use Rattle.wire.specs.Outcomes.{Outcome}
use Rattle.wire_memap.specs.declared.Op.TheVariants as O
use Rattle.call.specs.Job.{Job, ◌>>◌, return, fail, just, keeping}
use Rattle.call_at.specs.declared.At.{At}
use Rattle.call.specs.declared.Change.TheVariants as C
use Rattle.call_memory.specs.Memory.{mem_from}
use Rattle.call_memory.specs.declared.Mem.{Mem}
use Rattle.call_memory.specs.declared.MemoryAt.{MemoryAt}
use Rattle.call_memory.specs.declared.MemoryAt.TheVariants as A
use Rattle.call_memory.specs.declared.TurnStep.TheVariants as T

-- the address and the place in the buffer of the turn m
abbrev pub addr_of : Mem → ℕ
addr_of m = m.stop - m.left

abbrev pub place_of : Mem → ℕ
place_of m = m.len - m.left

-- the turns after one that moves `moved` bytes
abbrev pub rest : Bool → Mem → ℕ → Job
rest read m moved = mem_from read m.stop m.len (m.left - moved)

abbrev pub goes_on_of : MemoryAt → ℕ → Job
goes_on_of A.Whole v = return v
goes_on_of (A.Turn T.ReadRun m) v = keeping (C.StoreWords (place_of m) m.size) >> rest true m (4 * m.size)
goes_on_of (A.Turn T.ReadPart m) v = keeping (C.StorePart (place_of m) (addr_of m % 4) m.size v) >> rest true m m.size
goes_on_of (A.Turn T.WriteRun m) v = rest false m (4 * m.size)
goes_on_of (A.Turn T.PartRead m) v =
    keeping (C.Patch (place_of m) (addr_of m % 4) m.size v)
    >> (just (O.WriteWords (addr_of m - addr_of m % 4) 1 0) >> rest false m m.size)
goes_on_of (A.Turn T.PartWritten m) v = rest false m m.size

abbrev pub phase_after : MemoryAt → Outcome → Job
phase_after p (Ok v) = goes_on_of p v
phase_after p (Err e) = fail e

-- what the numbers of a call in flight say
abbrev pub mem_of : At → Mem
mem_of at = record { stop = at.a; len = at.b; left = at.c; size = at.d }

abbrev pub phases : Mem → List MemoryAt
phases m = A.Whole ∷ A.Turn T.ReadRun m ∷ A.Turn T.ReadPart m ∷ A.Turn T.WriteRun m ∷ A.Turn T.PartRead m ∷ []

abbrev pub turn_of : ℕ → Mem → MemoryAt
turn_of n m = get_or (phases m) n (A.Turn T.PartWritten m)

abbrev pub memory_at_of : At → MemoryAt
memory_at_of at = turn_of (at.step % 32) (mem_of at)

abbrev pub memory_after : At → Outcome → Job
memory_after at o = phase_after (memory_at_of at) o
