-- What the numbers of a Nordic call in flight say. Serves the proofs only.
use Rattle.std.specs.Prelude.{ℕ, ◌/◌, ◌%◌, List, [], ◌∷◌, eqb, get_or}
use Rattle.call_at.specs.declared.At.{At}
use Rattle.call_places.specs.declared.Chip.{Chip}
use Rattle.call_places.specs.declared.Chip.TheVariants.{Nrf52, Nrf54}
use Rattle.call_places.specs.declared.Flash.{Flash}
use Rattle.call_places.specs.declared.Flash.TheVariants as F
use Rattle.call_places.specs.declared.FlashStep.{FlashStep}
use Rattle.call_places.specs.declared.FlashStep.TheVariants as S
use Rattle.call_places.specs.declared.NrfAt.{NrfAt}
use Rattle.call_places.specs.declared.NrfAt.TheVariants as A

abbrev pub chips : List Chip
chips = Nrf52 ∷ []

abbrev pub chip_of : ℕ → Chip
chip_of n = get_or chips n Nrf54

abbrev pub steps : ℕ → List FlashStep
steps count = S.Settle count ∷ S.Wait count ∷ []

abbrev pub step_of : ℕ → ℕ → FlashStep
step_of kind count = get_or (steps count) kind S.Next

abbrev pub flashes : ℕ → ℕ → ℕ → ℕ → List Flash
flashes b c d e = F.Page b e ∷ F.Words (record { stop = b; len = c; left = d; polls = e }) ∷ []

abbrev pub flash_of : ℕ → ℕ → ℕ → ℕ → ℕ → Flash
flash_of kind b c d e = get_or (flashes b c d e) kind F.Close

abbrev pub phases : At → List NrfAt
phases at =
    A.Idr
    ∷ A.Status (eqb at.a 1)
    ∷ A.EraseAll at.a
    ∷ A.Erasing at.a
    ∷ A.Reset (eqb at.a 1)
    ∷ A.Release (eqb at.a 1)
    ∷ A.Flash (step_of (at.step / 8 % 4) at.a) (chip_of (at.step / 64 % 2)) (flash_of (at.step / 256 % 4) at.b at.c at.d at.e)
    ∷ []

abbrev pub nrf_at_of : At → NrfAt
nrf_at_of at = get_or (phases at) (at.step % 8) A.Last
