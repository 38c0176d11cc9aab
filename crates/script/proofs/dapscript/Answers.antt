-- The two branches are those of `output_of`.
use mathlib.Core.Path.{sym, ◌∙◌}
use native.Mathlib.Omega.{arith}
use Rattle.script.specs.Output.{output_of}
use Rattle.script_form.specs.Laws.Sizes.{sizes}
use Rattle.script.proofs.dapscript.Goals as goal

pub put_script-requires : goal.put_script-requires
put_script-requires c = sizes c.args.input.now (sym c.well_formed-2.ensures ∙ c.if-well_formed.true)

pub returns-then-well_formed : goal.returns-then-well_formed
unfolding output_of
returns-then-well_formed c =
    let t = sym c.well_formed-2.ensures ∙ c.if-well_formed.true in
    let p = c.put_script.ensures in
    (simp t (omega (arith, p.0.place)), simp t p.0.text, omega arith)

pub returns : goal.returns
unfolding output_of
returns c =
    let t = sym c.well_formed-2.ensures ∙ c.if-well_formed.false in
    let p = c.put_malformed.ensures in
    (simp t (omega (arith, p.0.place)), simp t p.0.text, omega arith)
