-- The request is that of the definition, from the numbers read at the same places.
use mathlib.Core.Path.{sym, ◌∙◌}
use native.Mathlib.Omega.{arith}
use Rattle.script.specs.Output.{request_text}
use Rattle.script.specs.Laws.Performing.{script_request}
use Rattle.script.proofs.put_script.Goals as goal

pub returns-in-None : goal.returns-in-None
unfolding request_text
returns-in-None c =
    let r = script_request c.args.input.now
    (c.from-end.ensures ∙ c.half.ensures) c.byte.ensures c.request_of.ensures in
    (rw (sym r ∙ c.in-None.is) c.put_malformed.ensures.0, omega arith)
