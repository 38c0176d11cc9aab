-- The step is taken in the words, and they are answered.
use Rattle.engine.specs.Laws.Answer.{stepped}
use Rattle.std.proofs.Common.{rules}
use Rattle.engine.proofs.step.Goals as goal

pub returns : goal.returns
returns c =
    let g = c.well_formed in
    stepped c.args.s _ (search (rules, g), search (rules, g)) (search (rules, g)) c.step_in.ensures c.answer.ensures
