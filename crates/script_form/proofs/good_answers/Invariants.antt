-- What is left to test is the records from the one at k on; each turn tests one.
use Rattle.std.proofs.Common.{◌≡◌, ◌+◌, ◌*◌, ◌-◌}
use Rattle.script_form.specs.Script.{good_answers}
use Rattle.script_form.proofs.good_answers.Given as goal

abbrev pub invariant-loop-k : goal.invariant-loop-k
invariant-loop-k l = good_answers l.input l.n l.i ≡ good_answers l.input (l.n - l.k) (l.i + 7 * l.k)
