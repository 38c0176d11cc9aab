-- The call is started in the words, and they are told.
use Rattle.abi_steps.specs.Laws.Takes.{starts_say}
use Rattle.abi_steps.proofs.start.Goals as goal

pub returns : goal.returns
returns c =
    λ h. starts_say (rw c.op_at-m.ensures at c.start_in.ensures) (c.keep_words.ensures h) c.tell.ensures
