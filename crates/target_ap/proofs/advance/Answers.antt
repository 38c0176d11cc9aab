-- The span is a power of two up to 2^32, so that TAR's high part and the wrapped low part stay within a word (`spanned`).
use Rattle.std.proofs.Common.{arith}
use Rattle.target.specs.Laws.MemAp.{Spanned, spanned}
use Rattle.target_ap.proofs.advance.Goals as goal

pub overflow_cast-result : goal.overflow_cast-result
overflow_cast-result c =
    let h : Spanned c.span_of-span.result c.from-tar.result = spanned c.args.t.width _ _ (omega arith) c.span_of-span.ensures in omega arith
