-- The answers that `load` leaves are those of the definition.
use Prim.Native.Nat.{ℕ}
use mathlib.Core.List.{List}
use mathlib.Core.Path.{subst}
use Rattle.std.proofs.Common.{rules, arith, length, ◌≡◌}
use Rattle.std.proofs.lemmas.Grind.{common_steps}
use Rattle.script_lines.specs.Laws.Puts.{Puts}
use Rattle.script_form.specs.Script.{answer_count, answer_at}
use Rattle.script.specs.Laws.Loads.{row_of}
use Rattle.script.specs.Laws.Performing.{request_text_lem}
use Rattle.script.proofs.answered.Goals as goal

pub returns : goal.returns
returns c =
    let loaded = row_of (answer_at c.args.input.now) _ (λ k x e. search rules) 7 _ _ c.load.ensures in
    let n : length c.load.new.xs ≡ answer_count c.args.input.now = grind (arith, common_steps) in (
      subst (λ (t : List ℕ). Puts c.args.out.now 0 t c.asked.new.out c.asked.result)
          (request_text_lem c.args.r c.args.input.now c.requires.1 n loaded) c.asked.ensures.0,
      c.asked.ensures.1,
    )
