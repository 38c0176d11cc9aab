-- The texts of the parts, one behind the other; of too many numbers none.
use Rattle.std.proofs.Common.{rules, refl, arith}
use Rattle.script_lines.specs.Laws.Lines.{adds_then}
use Rattle.script_lines.specs.Laws.Text.{listed_all, listed_none}
use Rattle.script_lines.proofs.put_run.Goals as goal

pub returns-then-log-words-gt4294967295 : goal.returns-then-log-words-gt4294967295
returns-then-log-words-gt4294967295 c =
    let e = c.args in (
      rw (listed_none e.log.now e.e e.s e.words.now e.buf.now c.if-log-words-gt4294967295.true) (record { place = refl; text = refl }),
      omega arith,
    )

pub returns : goal.returns
returns c =
    let e = c.args in
    let all = adds_then c.calls.ensures.0 (adds_then c.result.ensures.0 c.shown.ensures.0) in (
      rw (listed_all e.log.now e.e e.s e.words.now e.buf.now (omega arith)) (search rules),
      omega (arith, c.calls.ensures.1, c.result.ensures.1, c.shown.ensures.1),
    )
