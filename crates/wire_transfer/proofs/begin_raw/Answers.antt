-- Each call is stored as a row of the table of calls, which computes at its kind.
use mathlib.Core.Path.{sym, ap, ◌∙◌}
use native.Mathlib.Omega.{arith}
use Rattle.wire.specs.declared.Call.TheVariants.{Sequence}
use Rattle.wire_transfer.specs.Laws.Flight.{raw_begun, pins_back, bits_back, transfer_back}
use Rattle.wire_transfer.proofs.begin_raw.Goals as goal

pub returns-in-Transfer : goal.returns-in-Transfer
returns-in-Transfer c =
    λ h. raw_begun 0 _ 0 _ c.args.t.now c.once.ensures h
    (c.in-Transfer.is ∙ transfer_back _ (omega arith))

pub returns-in-Connect : goal.returns-in-Connect
returns-in-Connect c =
    λ h. raw_begun 1 0 0 0 c.args.t.now c.once-in-Connect.ensures h c.in-Connect.is

pub returns-in-Sequence : goal.returns-in-Sequence
returns-in-Sequence c =
    λ h. raw_begun 2 _ 0 0 c.args.t.now c.once-in-Sequence.ensures h
    (c.in-Sequence.is ∙ ap Sequence (sym c.from-in-Sequence.ensures.2))

pub returns-in-Pins : goal.returns-in-Pins
returns-in-Pins c =
    λ h. raw_begun 3 _ _ _ c.args.t.now c.once-in-Pins.ensures h
    (c.in-Pins.is ∙ pins_back _ _ (omega arith) (omega arith))

pub returns-in-WriteBits : goal.returns-in-WriteBits
returns-in-WriteBits c =
    λ h. raw_begun 4 _ 0 _ c.args.t.now c.once-in-WriteBits.ensures h
    (c.in-WriteBits.is ∙ bits_back _ (omega arith))

pub returns-in-OutputEnable : goal.returns-in-OutputEnable
returns-in-OutputEnable c =
    λ h. raw_begun 5 0 0 0 c.args.t.now c.once-in-OutputEnable.ensures h c.in-OutputEnable.is
