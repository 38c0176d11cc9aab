-- How long the parts of a well-formed script are. Serves the proofs.
use Rattle.std.specs.Prelude.{ℕ, ◌≤◌, true, ◌≡◌, List, length}
use Rattle.std.proofs.Common.{arith}
use Rattle.std.proofs.lemmas.Bool.Decides.{nat_tests}
use Rattle.script_form.specs.BigEndian.{half}
use Rattle.script_form.specs.Script.{call_end, well_formed}

pub record Sizes (xs : List ℕ) : Type 0 where
  pub all : length xs ≤ 65536
  pub some : 1 ≤ half xs 1
  pub inside : call_end xs ≤ length xs

pub sizes : (xs : List ℕ) → well_formed xs ≡ true → Sizes xs
unfolding well_formed
sizes xs h = record { all = grind (arith, nat_tests); some = grind (arith, nat_tests); inside = grind (arith, nat_tests) }
