-- Zeros are what most calls are lent; the others load the rest of their record over them.
use Rattle.std.proofs.Common.{rules}
use Rattle.script_form.specs.BigEndian.{word}
use Rattle.script.specs.Laws.Loads.{row_of}
use Rattle.script.specs.Laws.Lending.{untouched, given_words, given_bytes}
use Rattle.script.proofs.fill.Goals as goal

pub returns-in-GivenWords : goal.returns-in-GivenWords
returns-in-GivenWords c =
    let loaded = row_of (word c.args.a.now) _ (λ k x e. search rules) 4 _ _ c.load.ensures in
    given_words c.requires _ c.in-GivenWords.is c.load.auto.xs (rw c.from.ensures at loaded)

pub returns-in-GivenBytes : goal.returns-in-GivenBytes
returns-in-GivenBytes c = given_bytes c.requires _ c.in-GivenBytes.is c.load_bytes.ensures

pub returns-in_default : goal.returns-in_default
returns-in_default c = untouched c.requires c.in_default.not-GivenWords c.in_default.not-GivenBytes
