-- A number past the table has no row.
use Rattle.std.proofs.Common.{◌≤◌, None, sym, arith}
use lib.ListN.{get_or-eq_default}
use Rattle.script_request.specs.Request.{rows, request_of}
use Rattle.script_request.proofs.nrf54_request.Goals as goal

pub returns-in_default : goal.returns-in_default
unfolding request_of
returns-in_default c =
    let e = c.args in
    let past-35 : 36 ≤ e.number = omega arith in sym (get_or-eq_default (rows e.a.now) None past-35)
