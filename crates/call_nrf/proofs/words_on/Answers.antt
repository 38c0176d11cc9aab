-- With words left `programming_more` takes one run off, and `settled` ensures what follows it.
use mathlib.Core.Path.{◌∙◌}
use Rattle.call_nrf.specs.Laws.Runs.{programming_more}
use Rattle.call_nrf.proofs.words_on.Goals as goal

pub returns : goal.returns
returns c =
    let a = c.args in
    programming_more a.chip a.p c.if-p-eq0.false _ (rw c.words_below-addr.ensures at c.tar_run-n.ensures)
    ∙ (rw (c.words_below-addr.ensures, c.saturating_sub-more.ensures, c.saturating_sub-place.ensures) at c.settled.ensures)
