-- The loop takes turns of `patch_bytes` on the word's four bytes, and the turns left out store past the fourth.
-- A row without words drops the word.
use mathlib.Core.Path.{◌≡◌}
use lib.ListN.{drop}
use Rattle.call_bytes.specs.Bytes.{patch_bytes}
use Rattle.call_bytes.proofs.patch.Given as goal

abbrev pub invariant-loop-j : goal.invariant-loop-j
invariant-loop-j l = l.bytes ≡ patch_bytes l.j l.word l.skip (drop l.at l.buf)
