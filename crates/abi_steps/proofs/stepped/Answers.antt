-- The step is taken in the words, and they are told; with no call under way nothing is done.
use Rattle.abi_steps.specs.Laws.Takes.{steps_by, steps_none}
use Rattle.abi_steps.proofs.stepped.Goals as goal

pub returns-then-is_running : goal.returns-then-is_running
returns-then-is_running c =
    λ h. steps_by c.transfer_at-t.ensures c.op_at-m.ensures c.call_at-c.ensures c.is_running.ensures c.if-is_running.true (rw c.answer_at-a.ensures at c.step_in.ensures) (c.keep_words.ensures h) c.tell.ensures

pub returns : goal.returns
returns c =
    λ h. steps_none c.call_at-c.ensures c.is_running.ensures c.if-is_running.false c.refused.ensures
