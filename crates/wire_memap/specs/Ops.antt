-- The operations that calls are made of.
use Rattle.wire_transfer.specs.Transfer.{raw}
use Rattle.wire_memap.specs.Action.{Action}
use Rattle.wire_memap.specs.Ports.{dp_read, dp_write, ap_read, ap_write}
use Rattle.wire_memap.specs.Words.{read_word_of, write_word, read_words, write_words}
use Rattle.wire_memap.specs.declared.Op.{Op}
use Rattle.wire_memap.specs.declared.Op.TheVariants as O

unfoldable pub perform : Op → Action
perform (O.DpRead addr) = dp_read addr
perform (O.DpWrite addr word) = dp_write addr word
perform (O.ApRead addr) = ap_read addr
perform (O.ApWrite addr word) = ap_write addr word
perform (O.ReadWord addr) = read_word_of addr
perform (O.WriteWord addr word) = write_word addr word
perform (O.ReadWords addr n last) = read_words addr n last
perform (O.WriteWords addr n last) = write_words addr n last
perform (O.Other c) = λ k m. raw m c (k m)
