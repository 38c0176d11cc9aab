-- A call succeeded exactly if its result number is 0. Serves the proofs only.
use Rattle.std.specs.Prelude.{false, ◌≡◌, refl, eqb, Ok, Err}
use Rattle.wire.specs.Wire.{Ending, ended, spent, succeeds}
use Rattle.wire.specs.declared.ArmError.{ArmError}
use Rattle.wire.specs.declared.ArmError.TheVariants as E
use Rattle.wire_numbers.specs.Results.{error_number, ending_of}

failed_number : (e : ArmError) → eqb (error_number e) 0 ≡ false
failed_number (E.Transfer ack) = refl
failed_number E.Wait = refl
failed_number E.NotSupported = refl
failed_number E.PowerUpTimeout = refl
failed_number E.CoreTimeout = refl
failed_number E.NoTarget = refl
failed_number E.Internal = refl
failed_number E.Range = refl
failed_number E.Align = refl
failed_number E.TableEnd = refl

pub number_tells : (e : Ending) → eqb (ending_of e).number 0 ≡ succeeds e
number_tells (ended (Ok v)) = refl
number_tells (ended (Err e)) = failed_number e
number_tells spent = refl
