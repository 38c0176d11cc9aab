-- 01's result numbers: one definition from the ending of a call to its number and value.
use Rattle.std.specs.Prelude.{ℕ, Ok, Err}
use Rattle.wire.specs.Wire.{Ending, ended, spent}
use Rattle.wire.specs.declared.ArmError.{ArmError}
use Rattle.wire.specs.declared.ArmError.TheVariants as E
use Rattle.wire.specs.Outcomes.{Outcome}
use Rattle.wire_numbers.specs.declared.CallEnding.{CallEnding}

abbrev pub ending : ℕ → ℕ → CallEnding
ending n v = record { number = n; value = v }

-- a failure's value is 0 except for Transfer
abbrev pub error_ending : ArmError → CallEnding
error_ending (E.Transfer ack) = ending 1 ack
error_ending E.Wait = ending 2 0
error_ending E.NotSupported = ending 3 0
error_ending E.PowerUpTimeout = ending 4 0
error_ending E.CoreTimeout = ending 5 0
error_ending E.NoTarget = ending 6 0
error_ending E.Internal = ending 7 0
error_ending E.Range = ending 8 0
error_ending E.Align = ending 9 0
error_ending E.TableEnd = ending 12 0

abbrev pub error_number : ArmError → ℕ
error_number e = (error_ending e).number

abbrev pub error_value : ArmError → ℕ
error_value e = (error_ending e).value

abbrev pub result_of : Outcome → CallEnding
result_of (Ok v) = ending 0 v
result_of (Err e) = error_ending e

-- Spent is 11
abbrev pub ending_of : Ending → CallEnding
ending_of (ended o) = result_of o
ending_of spent = ending 11 0
