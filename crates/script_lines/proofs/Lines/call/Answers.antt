-- Each kind has its text.
use Rattle.std.proofs.Common.{rules, ◌≡◌, inl, inr}
use borrow.Author.Tests.{ne_eqb}
use Rattle.script_lines.specs.Laws.Numbers.{numbers_text}
use Rattle.script_lines.proofs.Lines.call.Goals as goal

pub returns-in-84 : goal.returns-in-84
unfolding numbers_text
returns-in-84 c = (rw c.in-84.is c.transfer.ensures.0, search rules)

pub returns-in-80 : goal.returns-in-80
unfolding numbers_text
returns-in-80 c = (rw c.in-80.is c.pins.ensures.0, search rules)

pub returns-in-67 : goal.returns-in-67
unfolding numbers_text
returns-in-67 c =
    (elim c.in-67.is [ inl e ↦ rw e (rw e at c.put.ensures) | inr e ↦ rw e (rw e at c.put.ensures) ], search rules)

pub returns-in_default : goal.returns-in_default
unfolding numbers_text
returns-in_default c =
    let t : c.args.c.kind ≡ 84 → ⊥ = search rules in
    let p : c.args.c.kind ≡ 80 → ⊥ = search rules in
    let n : c.args.c.kind ≡ 67 → ⊥ = search rules in
    let o : c.args.c.kind ≡ 79 → ⊥ = search rules in
    (simp (ne_eqb _ _ t, ne_eqb _ _ p, ne_eqb _ _ n, ne_eqb _ _ o) c.handed.ensures.0, search rules)
