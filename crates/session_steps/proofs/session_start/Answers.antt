-- The check that the code makes is the one of the definition. Refused, nothing is changed but that a call which was left is over; passed,
-- the call is begun.
use Rattle.session_calls.specs.Session.{lending}
use Rattle.session_steps.specs.Laws.Starts.{refused_as, started_by}
use Rattle.session_steps.proofs.session_start.Goals as goal

pub returns-in-Err : goal.returns-in-Err
returns-in-Err c =
    let t = c.args in
    started_by t.s t.o (lending t.room.now t.list.now t.buf.now) _ _ _ c.is_open.ensures c.facts_of-facts.ensures
    c.check_call.ensures c.in-Err.is
    (refused_as c.rest.ensures (c.refused.ensures t.room.now t.list.now t.buf.now))
