-- Both loops take turns of `store_words`, and the turns left out store past the end.
-- A turn at word k of the row stores its bytes from place 4 * k on.
use mathlib.Core.Path.{◌≡◌}
use Rattle.call_bytes.specs.Bytes.{store_words}
use Rattle.call_bytes.proofs.put_words.Given as goal

abbrev pub invariant-loop-j : goal.invariant-loop-j
invariant-loop-j l = l.dst ≡ store_words l.j l.row l.fn.dst

abbrev pub invariant-loop-j-2 : goal.invariant-loop-j-2
invariant-loop-j-2 l = l.dst ≡ store_words l.j l.row l.fn.dst
