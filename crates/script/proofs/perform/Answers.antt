-- The run makes at most as many calls as there are answers, so the log holds them all, and each of its numbers is read
-- back as the call that was made.
use Prim.Native.Nat.{ℕ}
use mathlib.Core.List.{List}
use mathlib.Core.Path.{subst}
use native.Mathlib.Omega.{arith}
use lib.ListN.{length-take}
use Rattle.script_lines.specs.Laws.Puts.{Puts}
use Rattle.script.specs.Laws.Performing.{count_most, count_fits, frame_length, performed_text}
use Rattle.script.proofs.perform.Goals as goal

pub slice_bounds-log-end : goal.slice_bounds-log-end
slice_bounds-log-end c =
    count_fits c.args.r c.args.words.now c.args.buf.now c.args.answers.now
    c.new.ensures c.run-ran.ensures (omega (arith, c.requires.0, c.zero_answers-log.ensures))

pub slice_bounds-put_performed-end : goal.slice_bounds-put_performed-end
slice_bounds-put_performed-end c =
    omega (
      arith,
      count_fits c.args.r c.args.words.now c.args.buf.now c.args.answers.now
          c.new.ensures c.run-ran.ensures (omega (arith, c.requires.0, c.zero_answers-log.ensures)),
      length-take c.run-ran.result.count c.run-ran.new.log,
    )

pub put_performed-requires : goal.put_performed-requires
put_performed-requires c = (
  omega (
    arith,
    c.requires.0,
    count_most c.args.r c.args.words.now c.args.buf.now c.args.answers.now
        c.new.ensures c.run-ran.ensures (omega (arith, c.requires.0, c.zero_answers-log.ensures)),
    length-take c.run-ran.result.count c.run-ran.new.log,
  ),
  frame_length c.args.r c.args.words.now c.args.buf.now c.args.answers.now
      c.new.ensures c.run-ran.ensures (omega (arith, c.requires.0, c.zero_answers-log.ensures)),
  omega (arith, c.requires.1, c.run-ran.auto.words),
  omega (arith, c.requires.2, c.run-ran.auto.buf),
)

pub returns : goal.returns
returns c = (
  subst (λ (t : List ℕ). Puts c.args.out.now 0 t c.put_performed.new.out c.put_performed.result)
      (performed_text c.args.r c.args.words.now c.args.buf.now c.args.answers.now
      c.new.ensures c.run-ran.ensures (omega (arith, c.requires.0, c.zero_answers-log.ensures))) c.put_performed.ensures.0,
  c.put_performed.ensures.1,
)
