-- The loop takes turns of `store_part`, and the turns left out store past the end.
-- A byte that `get_or` reads past the four is the 0 that `store_part` has there.
use mathlib.Core.Path.{◌≡◌}
use Rattle.call_bytes.specs.Bytes.{store_part}
use Rattle.call_bytes.proofs.put_part.Given as goal

abbrev pub invariant-loop-j : goal.invariant-loop-j
invariant-loop-j l = l.dst ≡ store_part l.j l.word l.skip l.initial.dst
