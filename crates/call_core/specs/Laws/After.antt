-- What follows each operation of a call: the table of phases. Serves the proofs only.
use Rattle.std.specs.Prelude.{ℕ, ◌+◌, ◌-◌, ◌*◌, ◌/◌, ◌%◌, Bool, true, false, cond, eqb, Ok, Err}
use Rattle.wire.specs.declared.ArmError.{ArmError}
use Rattle.wire.specs.Outcomes.{Outcome}
use Rattle.call.specs.Job.{Job, ends, attempt, or_fail, ◌>>=◌, ◌>>◌, return, fail, keeping, read_word_of, write_word}
use Rattle.call_at.specs.declared.At.{At}
use Rattle.call.specs.declared.Change.TheVariants as C
use Rattle.call_places.specs.Laws.Core.{core_at_of}
use Rattle.call_core.specs.Cortex.{DHCSR, DCRDR, DBGKEY, C_DEBUGEN, C_HALT, S_REGRDY, S_HALT, status, stands, R0}
use Rattle.call_core.specs.Core.{POLLS, wait_status, read_core_reg, store_core_reg}
use Rattle.call_core.specs.Function.{
  ENTRIES,
  NOT_FOUND,
  MASKED,
  joined,
  look_from,
  save_regs,
  write_regs,
  look_running,
  after_wait,
  finishing,
  BKPT_TWICE,
}
use Rattle.call_core.specs.Frame.{starts_with}
use Rattle.call_places.specs.declared.Wait.{Wait}
use Rattle.call_places.specs.declared.Wait.TheVariants as W
use Rattle.call_places.specs.declared.AccessAt.{AccessAt}
use Rattle.call_places.specs.declared.AccessAt.TheVariants as A
use Rattle.call_places.specs.declared.Search.{Search}
use Rattle.call_places.specs.declared.FindStep.{FindStep}
use Rattle.call_places.specs.declared.FindStep.TheVariants as F
use Rattle.call_places.specs.declared.Plan.{Plan}
use Rattle.call_places.specs.declared.Then.{Then}
use Rattle.call_places.specs.declared.Then.TheVariants as T
use Rattle.call_places.specs.declared.RunStep.{RunStep}
use Rattle.call_places.specs.declared.RunStep.TheVariants as R
use Rattle.call_places.specs.declared.CoreAt.{CoreAt}
use Rattle.call_places.specs.declared.CoreAt.TheVariants as P
use Rattle.call_core.specs.declared.Function.{Function}

-- Calls 15 to 21: an access to the core

abbrev pub bit_of : Wait → ℕ
bit_of W.Halt = S_HALT
bit_of W.Read = S_REGRDY
bit_of W.Write = S_REGRDY

-- a wait of n more reads, and what it is for
abbrev pub waiting : Wait → ℕ → Job
waiting W.Halt n = wait_status S_HALT n
waiting W.Read n = wait_status S_REGRDY n >> read_word_of DCRDR
waiting W.Write n = wait_status S_REGRDY n

-- what a DHCSR leads to
abbrev pub polled : Wait → ℕ → ℕ → Job
polled W.Halt left v = cond (stands S_HALT v) (return 0) (wait_status S_HALT left)
polled W.Read left v = cond (stands S_REGRDY v) (return 0) (wait_status S_REGRDY left) >> read_word_of DCRDR
polled W.Write left v = cond (stands S_REGRDY v) (return 0) (wait_status S_REGRDY left)

abbrev pub access_on : AccessAt → ℕ → Job
access_on A.Whole v = return v
access_on A.Halted v = return (status S_HALT v)
access_on (A.Asked w) v = waiting w POLLS
access_on (A.Poll w left) v = polled w left v
access_on (A.Data reg) v = store_core_reg reg

abbrev pub access_after : AccessAt → Outcome → Job
access_after p o = or_fail (access_on p) o

-- Call 22: the search of the bootrom's table

abbrev pub entry_of : Search → ℕ
entry_of s = s.table + 4 * (ENTRIES - s.left)

-- what an entry leads to
abbrev pub matching : Search → ℕ → Job
matching s entry =
    cond (eqb (entry % 0x10000) 0) (return NOT_FOUND)
    (cond (eqb (entry % 0x10000) s.want) (return (entry / 0x10000)) (look_from s.want s.table (s.left - 1)))

-- what the pointers lead to
abbrev pub tabled : ℕ → ℕ → Job
tabled want v = look_from want (v % 0x10000) ENTRIES

abbrev pub find_on : FindStep → ℕ → Search → ℕ → Job
find_on F.Table low s v = tabled s.want v
find_on F.Entry low s v = matching s v
find_on F.Low low s v = read_word_of (entry_of s - entry_of s % 4 + 4) >>= (λ high. matching s (joined (entry_of s % 4) v high))
find_on F.High low s v = matching s (joined (entry_of s % 4) low v)

-- Calls 23 to 25: a function's call, stretch by stretch

-- call 25 goes on with its second half
abbrev pub ending_of : Bool → ℕ → Job
ending_of true polls = finishing polls
ending_of false polls = return 0

abbrev pub ending : Plan → Job
ending p = ending_of p.finish p.polls

abbrev pub looking : ℕ → Plan → Job
looking n p = look_running n >> ending p

-- what a DHCSR leads to
abbrev pub looked : ℕ → Plan → ℕ → Job
looked left p v = cond (stands S_HALT v) (look_running left) (return 0) >> ending p

abbrev pub released : Plan → Job
released p = write_word DHCSR MASKED >> looking 64 p

abbrev pub setting : ℕ → Plan → Job
setting n p = write_regs 8 n >> (write_word DHCSR (MASKED + C_HALT) >> released p)

abbrev pub planting : Plan → Job
planting p = write_word (p.trampoline - p.trampoline % 4) BKPT_TWICE >> setting 8 p

abbrev pub saving : ℕ → Plan → Job
saving n p = save_regs n >> planting p

abbrev pub restoring : ℕ → ℕ → Job
restoring n value = write_regs 0 n >> return value

-- the wait's outcome, and only then the registers
abbrev pub resulting : Outcome → Job
resulting waited = ends waited >> (read_core_reg R0 >>= restoring 8)

abbrev pub run_on : RunStep → ℕ → Plan → ℕ → Job
run_on R.Planted left p v = setting 8 p
run_on R.Masked left p v = released p
run_on R.Released left p v = looking 64 p
run_on R.Look left p v = looked left p v

abbrev pub over_on : Bool → Outcome → Job
over_on true waited = resulting waited
over_on false waited = write_word DHCSR (DBGKEY + C_DEBUGEN + C_HALT) >> resulting waited

-- a function's call from its start
abbrev pub beginning : Function → Bool → ℕ → Job
beginning f finish polls =
    keeping (C.Registers (starts_with f))
    >> saving 8 (record { trampoline = f.trampoline; finish = finish; polls = polls })

-- what follows an access, by what it is for
abbrev pub then_on : Then → ℕ → Job
then_on T.End v = return v
then_on (T.Save left p) v = keeping (C.Put (8 - left) v) >> saving (left - 1) p
then_on (T.Set left p) v = setting (left - 1) p
then_on T.Result v = restoring 8 v
then_on (T.Restore left value) v = restoring (left - 1) value

abbrev pub goes_on_of : CoreAt → ℕ → Job
goes_on_of (P.Access p t) v = access_on p v >>= then_on t
goes_on_of (P.Find step low s) v = find_on step low s v
goes_on_of (P.Run step left p) v = run_on step left p v
goes_on_of (P.Wait left) v = attempt (polled W.Halt left v) after_wait
goes_on_of (P.Over unmasked waited) v = over_on unmasked waited

-- an error ends the call, except that of the wait for a function's end
abbrev pub stops_at : CoreAt → ArmError → Job
stops_at (P.Access p t) e = fail e
stops_at (P.Find step low s) e = fail e
stops_at (P.Run step left p) e = fail e
stops_at (P.Wait left) e = after_wait (Err e)
stops_at (P.Over unmasked waited) e = fail e

abbrev pub phase_after : CoreAt → Outcome → Job
phase_after p (Ok v) = goes_on_of p v
phase_after p (Err e) = stops_at p e

abbrev pub core_after : At → Outcome → Job
core_after at o = phase_after (core_at_of at) o
