-- What a call asks for next. Serves the proofs only: a call in flight stands for what follows its operation.
use Rattle.std.specs.Prelude.{◌≡◌, refl, Ok, Err}
use Rattle.wire.specs.Wire.{Memory}
use Rattle.wire.specs.Outcomes.{Outcome}
use Rattle.wire_memap.specs.Action.{Then}
use Rattle.wire_memap.specs.Ops.{perform}
use Rattle.wire_memap.specs.declared.Op.{Op}
use Rattle.call.specs.Change.{changed}
use Rattle.call.specs.Job.{Job, ends, op, keep, exec, either}
use Rattle.call.specs.declared.Change.{Change}
use Rattle.call.specs.declared.Change.TheVariants as C
use Rattle.call.specs.declared.Next.{Next}
use Rattle.call.specs.declared.Next.TheVariants as N

-- the operation w, and then what k makes of its outcome
abbrev pub op_then : Op → (Outcome → Job) → Job
op_then w k = op w (λ v. k (Ok v)) (λ e. k (Err e))

abbrev pub next_job : Next → (Outcome → Job) → Job
next_job (N.Do w) k = op_then w k
next_job (N.End o) k = ends o

-- a change that changes nothing is none
abbrev pub keep_some : Change → Job → Job
keep_some C.Nothing j = j
keep_some C.New j = keep C.New j
keep_some C.Forget j = keep C.Forget j
keep_some C.SelectZero j = keep C.SelectZero j
keep_some (C.Apsel a) j = keep (C.Apsel a) j
keep_some (C.StoreWords at n) j = keep (C.StoreWords at n) j
keep_some (C.StorePart at skip count word) j = keep (C.StorePart at skip count word) j
keep_some (C.LoadWords at n) j = keep (C.LoadWords at n) j
keep_some (C.Patch at skip count word) j = keep (C.Patch at skip count word) j
keep_some (C.Put at word) j = keep (C.Put at word) j
keep_some (C.Registers registers) j = keep (C.Registers registers) j
keep_some (C.Frame registers) j = keep (C.Frame registers) j

-- the job that a call asks for: a change, and then an operation with what follows it, or the end
abbrev pub asks : Change → Next → (Outcome → Job) → Job
asks c n k = keep_some c (next_job n k)

abbrev pub then_of : (Outcome → Job) → Then
then_of k = either (λ v. exec (k (Ok v))) (λ e. exec (k (Err e)))

pub then_is : (k : Outcome → Job) (m : Memory) (o : Outcome) → then_of k m o ≡ exec (k o) m
then_is k m (Ok v) = refl
then_is k m (Err e) = refl

pub exec_op : (w : Op) (k : Outcome → Job) (m : Memory) → exec (op_then w k) m ≡ perform w (then_of k) m
unfolding exec
exec_op w k m = refl

pub exec_keep : (c : Change) (j : Job) (m : Memory) → exec (keep_some c j) m ≡ exec j (changed c m)
unfolding exec
exec_keep C.Nothing j m = refl
exec_keep C.New j m = refl
exec_keep C.Forget j m = refl
exec_keep C.SelectZero j m = refl
exec_keep (C.Apsel a) j m = refl
exec_keep (C.StoreWords at n) j m = refl
exec_keep (C.StorePart at skip count word) j m = refl
exec_keep (C.LoadWords at n) j m = refl
exec_keep (C.Patch at skip count word) j m = refl
exec_keep (C.Put at word) j m = refl
exec_keep (C.Registers registers) j m = refl
exec_keep (C.Frame registers) j m = refl
