-- The parts that are lent hold as many zeros as the call needs, which are fewer than the arrays hold.
use Prim.Native.Nat.{ℕ}
use mathlib.Core.Path.{ap, ◌∙◌}
use native.Mathlib.Omega.{arith}
use lib.ListN.{replicate}
use Rattle.script.specs.Laws.Lending.{part_zeros}
use Rattle.script.proofs.asked.Goals as goal

pub fill-requires : goal.fill-requires
fill-requires c =
    record {
      short = omega arith;
      words = part_zeros c.word_count.result 65536 (omega arith) c.zero_words-zero_words.ensures
          ∙ ap (λ (n : ℕ). replicate n 0) c.word_count.ensures.0;
      buf = part_zeros c.byte_count.result 65536 (omega arith) c.zero_bytes-zero_bytes.ensures
          ∙ ap (λ (n : ℕ). replicate n 0) c.byte_count.ensures.0;
    }
