-- Both loops take turns of `store_words`, and the turns left out store past the end.
-- A turn at word k of the row stores its bytes from place 4 * k on.
use mathlib.Core.Path.{◌∙◌}
use native.Mathlib.Omega.{arith}
use Rattle.call_bytes.specs.Laws.Byte.{whole_put, words_stored, turned, turns_end}
use Rattle.call_bytes.proofs.put_words.Goals as goal

pub loop-j-init : goal.loop-j-init
loop-j-init c = (words_stored _ _).start

pub loop-j-preserved : goal.loop-j-preserved
loop-j-preserved c = turned (words_stored _ _) _ c.loop-j.invariant (whole_put _ _ _ _ (omega arith) (c.copy_from_slice.ensures.after ∙ c.to_le_bytes.ensures))

pub loop-j-2-preserved : goal.loop-j-2-preserved
loop-j-2-preserved c = turned (words_stored _ _) _ c.loop-j-2.invariant (c.put_word.ensures ∙ rw c.get_or.ensures)

pub returns : goal.returns
returns c = turns_end (words_stored _ _) _ _ c.loop-j-2.invariant (omega arith) (λ k h. omega arith)
