-- The loop takes turns of `patch_bytes` on the word's four bytes, and the turns left out store past the fourth.
-- A row without words drops the word.
use Prim.Native.Nat.{ℕ}
use mathlib.Core.Path.{ap, ◌∙◌}
use mathlib.Core.List.{List}
use native.Mathlib.Omega.{arith}
use lib.ListN.{set}
use lib.Seq.{get_or-drop}
use Rattle.wire.specs.Bytes.{le_word}
use Rattle.call_bytes.specs.Laws.Byte.{word_bytes, bytes_patched, turned, turns_end}
use Rattle.call_bytes.proofs.patch.Goals as goal

pub loop-j-init : goal.loop-j-init
loop-j-init c = c.to_le_bytes-bytes.ensures ∙ word_bytes _ ∙ (bytes_patched _ _ _).start

pub loop-j-preserved : goal.loop-j-preserved
loop-j-preserved c = turned (bytes_patched _ _ _) _ c.loop-j.invariant (rw (c.get_or.ensures, get_or-drop))

pub returns : goal.returns
returns c =
    let a = c.args in c.put.ensures ∙ ap (set a.row.now 0) (c.get_word.ensures
    ∙ ap (λ (l : List ℕ). le_word l 0) (turns_end (bytes_patched _ _ _) _ a.count c.loop-j.invariant (omega arith)
    (λ k h. omega arith)))
