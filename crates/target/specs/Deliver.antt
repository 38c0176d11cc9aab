-- What a target makes of a transport call that reaches it (01: "The model target"; ADIv5.2, chapters B1 and B4; readings 18 and 24).
-- A reply is a value or FAULT, so that a target never answers WAIT. A call that is no transfer reaches no register and is answered Ok 0.
use Rattle.std.specs.Prelude.{Bool, true, false, not, ◌&&◌, cond, List, ℕ, Ok, Err}
use Rattle.wire.specs.declared.Call.{Call}
use Rattle.wire.specs.declared.Call.TheVariants as C
use Rattle.wire.specs.Outcomes.{Answer}
use Rattle.wire.specs.declared.DapError.TheVariants.{SwdError}
use Rattle.target.specs.declared.Target.{Target}
use Rattle.target.specs.declared.Done.{Done}
use Rattle.target.specs.declared.Delivered.{Delivered}
use Rattle.target.specs.declared.Register.{Register}
use Rattle.target.specs.declared.Register.TheVariants.{Dp, Ap}
use Rattle.target.specs.declared.DpRegister.{DpRegister}
use Rattle.target.specs.declared.DpRegister.TheVariants as D
use Rattle.target.specs.Decode.{register_of}
use Rattle.target.specs.DebugPort.{reach_dp}
use Rattle.target.specs.MemAp.{reach_ap, memory_after}

pub data Reply : Type 0 where
  ok : ℕ → Reply
  fault : Reply

-- FAULT is ack 4
abbrev pub answer_of : Reply → Answer
answer_of (ok v) = Ok v
answer_of fault = Err (SwdError 4)

-- the reply to a transport call, and the target and memory after it
pub record Delivery : Type 0 where
  pub reply : Reply
  pub target : Target
  pub mem : List ℕ

-- what is done although sticky is set: DPIDR read, CTRL/STAT read, ABORT write
abbrev pub exempt_dp : DpRegister → Bool
exempt_dp D.AbortWrite = true
exempt_dp D.DpidrRead = true
exempt_dp D.CtrlStatWrite = false
exempt_dp D.CtrlStatRead = true
exempt_dp D.SelectWrite = false
exempt_dp D.RdbuffRead = false
exempt_dp D.OtherRead = false
exempt_dp D.OtherWrite = false

abbrev pub exempt : Register → Bool
exempt (Dp r) = exempt_dp r
exempt (Ap r) = false

abbrev pub replied : Done → List ℕ → Delivery
replied d m = record { reply = ok d.value; target = d.target; mem = m }

abbrev pub reach : Register → Target → List ℕ → ℕ → Delivery
reach (Dp r) t m w = replied (reach_dp r t w) m
reach (Ap r) t m w = replied (reach_ap r t m w) (memory_after r t m w)

-- whether an access is refused: sticky is set and the register is not exempt
abbrev pub barred : Register → Bool → Bool
barred r sticky = sticky && not (exempt r)

-- an access to a register: FAULT, and nothing is done, where it is refused
abbrev pub access : Register → Target → List ℕ → ℕ → Delivery
access r t m w = cond (barred r t.sticky) (record { reply = fault; target = t; mem = m }) (reach r t m w)

unfoldable pub transfer : Target → List ℕ → ℕ → ℕ → Delivery
transfer t m request w = access (register_of request t.select) t m w

abbrev pub untouched : Target → List ℕ → Delivery
untouched t m = record { reply = ok 0; target = t; mem = m }

-- a transfer goes by f; every other transport call comes to the same
abbrev pub transfer_else : {A : Type 0} → (ℕ → ℕ → A) → A → Call → A
transfer_else f other (C.Transfer request w) = f request w
transfer_else f other C.Connect = other
transfer_else f other (C.Sequence p) = other
transfer_else f other (C.Pins output select wait) = other
transfer_else f other (C.WriteBits bits w) = other
transfer_else f other C.OutputEnable = other

abbrev pub deliver : Target → List ℕ → Call → Delivery
deliver t m c = transfer_else (transfer t m) (untouched t m) c

-- the struct that the code returns of it; the memory is what the lent slice holds
abbrev pub given : Delivery → Delivered
given d = record { target = d.target; answer = answer_of d.reply }

-- and of an access that was done
abbrev pub good : Done → Delivered
good d = record { target = d.target; answer = Ok d.value }
