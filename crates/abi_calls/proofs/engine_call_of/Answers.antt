-- A number past the table has no row.
use Rattle.std.specs.Prelude.{◌≡◌, ◌≤◌, refl}
use Rattle.std.proofs.Common.{arith}
use Rattle.wire.specs.Laws.Rows.{past}
use Rattle.abi_calls.specs.Given.{rows, engine_call_of}
use Rattle.abi_calls.proofs.engine_call_of.Goals as goal

pub returns-in_default : goal.returns-in_default
unfolding engine_call_of
returns-in_default c = let z : c.args.number ≡ 0 = omega arith in rw z refl

pub returns-in_default-2 : goal.returns-in_default-2
unfolding engine_call_of
returns-in_default-2 c = let h : 36 ≤ c.args.number = omega arith in past (rows c.args.args.now) _ _ h
