use mathlib.Core.Path.{sym, ◌∙◌}
use Rattle.bazkondur.specs.Laws.Goes.{engine_begins_as}
use Rattle.bazkondur.proofs.bazkondur_engine_start.Goals as goal

pub returns-in-Some : goal.returns-in-Some
returns-in-Some c =
    λ h. engine_begins_as (sym c.engine_call_of.ensures ∙ c.in-Some.is) (c.start.ensures h)
