-- Both loops take turns of `load_words`, and the turns left out store past the end.
-- A turn at place k of the row takes the four bytes from place 4 * k on.
use native.Mathlib.Omega.{arith}
use Rattle.call_bytes.specs.Laws.Byte.{whole_got, words_loaded, turned, turns_end}
use Rattle.call_bytes.proofs.get_words.Goals as goal

pub loop-j-init : goal.loop-j-init
loop-j-init c = (words_loaded _ _).start

pub loop-j-preserved : goal.loop-j-preserved
loop-j-preserved c = turned (words_loaded _ _) _ c.loop-j.invariant (rw (c.get_word.ensures, whole_got _ _))

pub loop-j-2-preserved : goal.loop-j-2-preserved
loop-j-2-preserved c = turned (words_loaded _ _) _ c.loop-j-2.invariant (rw c.get_word-in-loop-j-2.ensures)

pub returns : goal.returns
returns c = turns_end (words_loaded _ _) _ _ c.loop-j-2.invariant (omega arith) (λ k h. omega arith)
