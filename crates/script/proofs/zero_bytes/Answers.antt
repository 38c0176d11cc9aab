-- The array is so many zeros by definition.
use Rattle.std.proofs.Common.{refl}
use Rattle.script.specs.Laws.Lending.{zeros}
use Rattle.script.proofs.zero_bytes.Goals as goal

pub returns : goal.returns
unfolding zeros
returns c = refl
