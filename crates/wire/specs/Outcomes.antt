-- What the transport answers, and how an operation or a call ends: the aliases of src/lib.rt.
use Rattle.std.specs.Prelude.{ℕ, Result}
use Rattle.wire.specs.declared.ArmError.{ArmError}
use Rattle.wire.specs.declared.ArmError.TheVariants as E
use Rattle.wire.specs.declared.DapError.{DapError}
use Rattle.wire.specs.declared.DapError.TheVariants.{SwdError, NotSupported, Other}

abbrev pub Answer : Type 0
Answer = Result ℕ DapError

abbrev pub Outcome : Type 0
Outcome = Result ℕ ArmError

-- what the probe could not do, as the error of an operation
abbrev pub arm_error : DapError → ArmError
arm_error (SwdError ack) = E.Transfer ack
arm_error NotSupported = E.NotSupported
arm_error Other = E.Internal
