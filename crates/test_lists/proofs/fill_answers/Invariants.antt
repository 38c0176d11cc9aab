-- The answers that are filled end in the slice.
use Rattle.std.proofs.Common.{◌≤◌, length}
use Rattle.test_lists.proofs.fill_answers.Given as goal

abbrev pub invariant-loop : goal.invariant-loop
invariant-loop l = l.end ≤ length l.answers
