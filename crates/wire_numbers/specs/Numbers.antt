-- A transport call as a struct of numbers, as the step's answer has it.
use Rattle.std.specs.Prelude.{length}
use Rattle.wire.specs.Bytes.{pattern_bits, handed}
use Rattle.wire.specs.declared.Call.{Call}
use Rattle.wire.specs.declared.Call.TheVariants as T
use Rattle.wire_numbers.specs.declared.TransportCall.{TransportCall}

-- its kind is the letter that a script's listing has for it; len: how many bytes are handed over with it
abbrev pub numbers_of : Call → TransportCall
numbers_of (T.Transfer request word) = record { kind = 0x54; request = request; output = 0; select = 0; bits = 0; len = 0; word = word }
numbers_of T.Connect = record { kind = 0x43; request = 0; output = 0; select = 0; bits = 0; len = 0; word = 0 }
numbers_of (T.Sequence p) =
    record { kind = 0x51; request = 0; output = 0; select = 0; bits = pattern_bits p; len = length (handed (T.Sequence p)); word = 0 }
numbers_of (T.Pins output select wait) = record { kind = 0x50; request = 0; output = output; select = select; bits = 0; len = 0; word = wait }
numbers_of (T.WriteBits bits word) =
    record { kind = 0x42; request = 0; output = 0; select = 0; bits = bits; len = length (handed (T.WriteBits bits word)); word = word }
numbers_of T.OutputEnable = record { kind = 0x4F; request = 0; output = 0; select = 0; bits = 0; len = 0; word = 0 }
