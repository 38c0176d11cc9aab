-- Both loops take turns of `load_words`, and the turns left out store past the end.
-- A turn at place k of the row takes the four bytes from place 4 * k on.
use mathlib.Core.Path.{◌≡◌}
use Rattle.call_bytes.specs.Bytes.{load_words}
use Rattle.call_bytes.proofs.get_words.Given as goal

abbrev pub invariant-loop-j : goal.invariant-loop-j
invariant-loop-j l = l.row ≡ load_words l.j l.src l.fn.row

abbrev pub invariant-loop-j-2 : goal.invariant-loop-j-2
invariant-loop-j-2 l = l.row ≡ load_words l.j l.src l.fn.row
