-- What the transport call comes to is what the operation goes on with.
use Rattle.wire_memap.specs.Laws.Flight.{step_again, step_ended}
use Rattle.std.proofs.Common.{◌≡◌, None, rules}
use Rattle.wire_step.proofs.op_step.Goals as goal

pub returns-in_err-o : goal.returns-in_err-o
returns-in_err-o c =
    let none : c.from_residual.result ≡ None = search rules in
    λ f. let a = c.args in rw none (step_again a.t.now a.m.now _ a.row.now a.a (c.transfer_step.ensures f.0) (search rules) f.1)

pub returns : goal.returns
returns c =
    λ f. let a = c.args in let g = c.transfer_step.ensures f.0 in
    step_ended a.t.now a.m.now _ a.row.now a.a _ g (search rules) (c.op_ended.ensures (g.sized, f.1))
