-- Copyright 2026 Kenta Ida. SPDX-License-Identifier: Apache-2.0. Ported from arm-debug/src/lib.rs of ciniml/rust-dap.
-- One transfer (000: transfer, clear_sticky_errors): WAIT, ack 2, repeats it, 65 tries in all; any other error is followed
-- by one ABORT write of 0x1E, its answer ignored. A call that is no transfer is made once, with no ABORT.
use Rattle.std.specs.Prelude.{ℕ, zero, suc, Bool, true, false, eqb, Ok, Err}
use Rattle.wire.specs.Wire.{Wire, ask, tell, Memory}
use Rattle.wire.specs.declared.Call.{Call}
use Rattle.wire.specs.declared.Call.TheVariants as C
use Rattle.wire.specs.Outcomes.{Answer}
use Rattle.wire.specs.declared.DapError.TheVariants.{SwdError, NotSupported, Other}
use Rattle.wire.specs.Outcomes.{Outcome, arm_error}
use Rattle.wire.specs.declared.ArmError.{ArmError}
use Rattle.wire.specs.declared.ArmError.TheVariants as E

-- A FAULT sets a sticky bit under which every further access to an access port faults too: one read of memory that is not there would
-- spoil all that follows. ABORT can be written whatever stands, so it is sent once: STKCMPCLR, STKERRCLR, WDERRCLR and ORUNERRCLR,
-- and then the error.
abbrev pub clear_sticky_errors : Memory → ArmError → (Outcome → Wire) → Wire
clear_sticky_errors m e k = tell m (C.Transfer 0 0x1E) (k (Err e))

abbrev pub after_ack : Bool → Memory → Wire → (Outcome → Wire) → ℕ → Wire
after_ack true m again k ack = again
after_ack false m again k ack = clear_sticky_errors m (E.Transfer ack) k

abbrev pub after_answer : Memory → Wire → (Outcome → Wire) → Answer → Wire
after_answer m again k (Ok v) = k (Ok v)
after_answer m again k (Err (SwdError ack)) = after_ack (eqb ack 2) m again k ack
after_answer m again k (Err NotSupported) = clear_sticky_errors m E.NotSupported k
after_answer m again k (Err Other) = clear_sticky_errors m E.Internal k

-- the transfer c with n tries left
unfoldable pub tries : ℕ → Memory → Call → (Outcome → Wire) → Wire
tries zero m c k = k (Err E.Wait)
tries (suc n) m c k = ask m c (after_answer m (tries n m c k) k)

unfoldable pub transfer : Memory → ℕ → ℕ → (Outcome → Wire) → Wire
transfer m request word k = tries 65 m (C.Transfer request word) k

abbrev pub raw_outcome : Answer → Outcome
raw_outcome (Ok v) = Ok v
raw_outcome (Err e) = Err (arm_error e)

unfoldable pub raw : Memory → Call → (Outcome → Wire) → Wire
raw m c k = ask m c (λ a. k (raw_outcome a))
