-- A call as a job: operations, changes of what is kept, and an end; `exec` makes a tree of transport calls of it.
-- Jobs chain in `do` blocks as the Rust's methods do: a value goes on to the next line, an error ends the call.
-- Every call is of this one first-order language, so that a claim about all calls is one induction.
use Rattle.std.specs.Prelude.{ℕ, Ok, Err}
use Rattle.wire.specs.Wire.{Wire, Memory, done}
use Rattle.wire.specs.declared.Call.{Call}
use Rattle.wire.specs.declared.ArmError.{ArmError}
use Rattle.wire.specs.Outcomes.{Outcome}
use Rattle.wire_memap.specs.Ops.{perform}
use Rattle.wire_memap.specs.declared.Op.{Op}
use Rattle.wire_memap.specs.declared.Op.TheVariants as O
use Rattle.call.specs.Change.{changed}
use Rattle.call.specs.declared.Change.{Change}

-- an operation goes on by its value or by its error
pub data Job : Type 0 where
  ends : Outcome → Job
  op : Op → (ℕ → Job) → (ArmError → Job) → Job
  keep : Change → Job → Job

abbrev pub either : (ℕ → Memory → Wire) → (ArmError → Memory → Wire) → Memory → Outcome → Wire
either good bad m (Ok v) = good v m
either good bad m (Err e) = bad e m

unfoldable pub exec : Job → Memory → Wire
exec (ends o) m = done m o
exec (op w good bad) m = perform w (either (λ v. exec (good v)) (λ e. exec (bad e))) m
exec (keep c j) m = exec j (changed c m)

abbrev pub return : ℕ → Job
return v = ends (Ok v)

abbrev pub fail : ArmError → Job
fail e = ends (Err e)

-- j, and then k whatever came of it
abbrev pub attempt : Job → (Outcome → Job) → Job
attempt (ends o) k = k o
attempt (op w good bad) k = op w (λ v. attempt (good v) k) (λ e. attempt (bad e) k)
attempt (keep c j) k = keep c (attempt j k)

-- an error ends the call
abbrev pub or_fail : (ℕ → Job) → Outcome → Job
or_fail k (Ok v) = k v
or_fail k (Err e) = fail e

infixr 1 ◌>>=◌ ◌>>◌
abbrev pub ◌>>=◌ : Job → (ℕ → Job) → Job
◌>>=◌ j k = attempt j (or_fail k)

abbrev pub ◌>>◌ : Job → Job → Job
◌>>◌ j k = j >>= (λ (_ : ℕ). k)

-- the operations and the changes, by the names of the Rust's methods
abbrev pub just : Op → Job
just w = op w return fail

abbrev pub keeping : Change → Job
keeping c = keep c (return 0)

abbrev pub dp_read : ℕ → Job
dp_read addr = just (O.DpRead addr)

abbrev pub dp_write : ℕ → ℕ → Job
dp_write addr word = just (O.DpWrite addr word)

abbrev pub ap_read : ℕ → Job
ap_read addr = just (O.ApRead addr)

abbrev pub ap_write : ℕ → ℕ → Job
ap_write addr word = just (O.ApWrite addr word)

abbrev pub read_word_of : ℕ → Job
read_word_of addr = just (O.ReadWord addr)

abbrev pub write_word : ℕ → ℕ → Job
write_word addr word = just (O.WriteWord addr word)

abbrev pub transport : Call → Job
transport c = just (O.Other c)
