-- The loop takes turns of `store_part`, and the turns left out store past the end.
-- A byte that `get_or` reads past the four is the 0 that `store_part` has there.
use native.Mathlib.Omega.{arith}
use Rattle.call_bytes.specs.Laws.Byte.{word_bytes, part_stored, turned, turns_end}
use Rattle.call_bytes.proofs.put_part.Goals as goal

pub loop-j-init : goal.loop-j-init
loop-j-init c = (part_stored _ _ _).start

pub loop-j-preserved : goal.loop-j-preserved
loop-j-preserved c =
    turned (part_stored _ _ _) _ c.loop-j.invariant (simp (c.get_or.ensures, c.to_le_bytes-bytes.ensures, word_bytes))

pub returns : goal.returns
returns c = turns_end (part_stored _ _ _) _ _ c.loop-j.invariant (omega arith) (λ k h. omega arith)
