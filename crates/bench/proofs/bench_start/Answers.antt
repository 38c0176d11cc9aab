-- A new engine is remembered, and the call is started in the words.
use Rattle.bench.specs.Laws.Steps.{begun_in}
use Rattle.bench.proofs.bench_start.Goals as goal

pub returns : goal.returns
returns c =
    let a = c.args in begun_in _ a.t.now a.m.now a.c.now a.room.now a.words.now a.buf.now
    c.call_no.ensures c.new.ensures c.remember.ensures c.start_in.ensures c.is_running.ensures
