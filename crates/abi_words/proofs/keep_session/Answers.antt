-- Its first three words, and then those of its state.
use Rattle.abi_words.specs.Laws.Kept.{keeps_session}
use Rattle.abi_words.proofs.keep_session.Goals as goal

pub returns : goal.returns
returns c =
    λ h. keeps_session c.args.s _ _ c.phase_no.ensures h c.keep_words.ensures
