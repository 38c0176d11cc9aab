-- The engine's start reports the tree of the call, from what the call remembers and over the room.
use mathlib.Core.Path.{refl, ap, ◌∙◌}
use Rattle.wire.specs.declared.Remembered.{Remembered}
use Rattle.session_phase.specs.Phase.{remembered_for}
use Rattle.session_rules.specs.declared.Facts.{Facts}
use Rattle.session.specs.Laws.Ends.{settles}
use Rattle.session_steps.specs.Laws.Starts.{starts, answers_as}
use Rattle.session_steps.proofs.begun.Goals as goal

pub returns : goal.returns
returns c =
    let t = c.args in
    let kind = ap (λ (f : Facts). f.kind) c.facts_of-kind.ensures in
    let x = starts t.s t.o.call t.room.now t.list.now t.buf.now kind c.into.ensures
    (c.remembered_for-r.ensures ∙ ap (λ (r : Remembered). remembered_for c.facts_of-kind.result.kind r) c.remembered.ensures)
    c.start-x.ensures in
    answers_as kind refl refl x.kept (settles _ _ _ _ _ _ _ _ _ x.steps c.settled.ensures)
