-- The line between engine and target (01: "The model target", last rule; reading 26): it delivers a transport call; or answers WAIT,
-- ack 2, with the call undelivered; or loses it, delivered or not, and the engine gets an error other than ack 2 and 4.
use Rattle.std.specs.Prelude.{cond, List, ℕ, ◌/◌, ◌%◌, eqb, ltb, Err}
use Rattle.wire.specs.declared.Call.{Call}
use Rattle.wire.specs.Outcomes.{Answer}
use Rattle.wire.specs.declared.DapError.TheVariants as W
use Rattle.target.specs.declared.Target.{Target}
use Rattle.target.specs.declared.Delivered.{Delivered}
use Rattle.target.specs.declared.Loss.{Loss}
use Rattle.target.specs.declared.Loss.TheVariants.{Ack, NotSupported, Other}
use Rattle.target.specs.declared.Act.{Act}
use Rattle.target.specs.declared.Act.TheVariants.{Deliver, Wait, Lose}
use Rattle.target.specs.Deliver.{Delivery, answer_of, deliver}

-- what the engine hears of a transport call, and the target and memory after it
pub record Heard : Type 0 where
  pub answer : Answer
  pub target : Target
  pub mem : List ℕ

abbrev pub heard : Answer → Delivery → Heard
heard a d = record { answer = a; target = d.target; mem = d.mem }

-- the ack of a loss: 2 and 4 would be WAIT and FAULT, and stand for 7, what a line that nobody drives reads as
abbrev pub ack_of : ℕ → ℕ
ack_of k = cond (eqb k 2) 7 (cond (eqb k 4) 7 k)

abbrev pub error_of : Loss → Answer
error_of (Ack k) = Err (W.SwdError (ack_of k))
error_of NotSupported = (Err W.NotSupported)
error_of Other = (Err W.Other)

abbrev pub line : Target → List ℕ → Call → Act → Heard
line t m c Deliver = heard (answer_of (deliver t m c).reply) (deliver t m c)
line t m c Wait = record { answer = Err (W.SwdError 2); target = t; mem = m }
line t m c (Lose delivered e) = cond delivered (heard (error_of e) (deliver t m c)) (record { answer = error_of e; target = t; mem = m })

-- the struct that the code returns of it; the memory is what the lent slice holds
abbrev pub told : Heard → Delivered
told h = record { target = h.target; answer = h.answer }

-- an error of a loss: 256 NotSupported, 257 other, below them the ack
abbrev pub loss_of : ℕ → Loss
loss_of k = cond (ltb k 256) (Ack k) (cond (eqb k 256) NotSupported Other)

-- an act as a number: 0 delivers, 1 is WAIT; 2 loses what was delivered and 3 what was not, plus four times the error
abbrev pub act_of : ℕ → Act
act_of x =
    cond (eqb (x % 4) 0) Deliver (cond (eqb (x % 4) 1) Wait (Lose (eqb (x % 4) 2) (loss_of (x / 4))))
