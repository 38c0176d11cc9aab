-- All that a run leaves fits a listing, so `put_run` lists it; what is shown is the frame or the words, as the buffer's kind says.
use native.Mathlib.Omega.{arith}
use Rattle.script.specs.Laws.Performing.{frame_shown, words_shown_lem, shown_text_lem}
use Rattle.script.proofs.put_performed.Goals as goal

pub returns-in-Frame : goal.returns-in-Frame
returns-in-Frame c =
    let a = c.args in (
      shown_text_lem a.log.now a.e a.b a.buf.now c.put_run.ensures.0 c.shown_of-shown.ensures (frame_shown a.frame.now a.words.now c.in-Frame.is)
          (omega (arith, c.requires)),
      omega (arith, c.requires, c.put_run.ensures.1),
    )

pub returns-in_default : goal.returns-in_default
returns-in_default c =
    let a = c.args in (
      shown_text_lem a.log.now a.e a.b a.buf.now c.put_run-in_default.ensures.0 c.shown_of-shown.ensures (words_shown_lem a.frame.now a.words.now c.in_default.not-Frame)
          (omega (arith, c.requires)),
      omega (arith, c.requires, c.put_run-in_default.ensures.1),
    )
