-- What follows each operation of a Nordic call. Serves the proofs only: the table of phases, and that it is the calls as written.
use Rattle.std.specs.Prelude.{ℕ, zero, suc, ◌-◌, ◌%◌, Bool, true, cond, ◌≡◌, refl, eqb, Ok, Err}
use Rattle.std.proofs.Common.{ap}
use Rattle.wire.specs.Laws.Numbers.{less}
use Rattle.wire.specs.Outcomes.{Outcome}
use Rattle.wire_memap.specs.declared.Op.{Op}
use Rattle.wire_memap.specs.declared.Op.TheVariants as O
use Rattle.call.specs.Job.{Job, op, ends, ◌>>◌, return, fail, just, ap_write, write_word}
use Rattle.call_at.specs.declared.At.{At}
use Rattle.call_places.specs.Laws.Nrf.{nrf_at_of}
use Rattle.call_nrf.specs.Nrf52 as nrf52
use Rattle.call_nrf.specs.Nrf54 as nrf54
use Rattle.call_nrf.specs.Nrf.{set_apsel, answer, read_status, outcome, soft_reset, poll_erased, wait_ready, runs}
use Rattle.call_places.specs.declared.Chip.{Chip}
use Rattle.call_places.specs.declared.Chip.TheVariants.{Nrf52, Nrf54}
use Rattle.call_places.specs.declared.Program.{Program}
use Rattle.call_places.specs.declared.Flash.{Flash}
use Rattle.call_places.specs.declared.Flash.TheVariants as F
use Rattle.call_places.specs.declared.FlashStep.{FlashStep}
use Rattle.call_places.specs.declared.FlashStep.TheVariants as S
use Rattle.call_places.specs.declared.NrfAt.{NrfAt}
use Rattle.call_places.specs.declared.NrfAt.TheVariants as A

-- a job on the access port `ap`, and the end of one there
abbrev pub on_port : ℕ → Job → Job
on_port ap j = set_apsel ap >> j

abbrev pub leaves : Outcome → Job
leaves o = set_apsel 0 >> ends o

-- what an ERASEALLSTATUS leads to
abbrev pub after_erased : ℕ → ℕ → Job
after_erased left v = cond (eqb (v % 2) 0) (soft_reset true) (poll_erased left)

abbrev pub released : Bool → Job
released erased = leaves (outcome erased)

abbrev pub releasing : Bool → Job
releasing erased = ap_write nrf52.CTRLAP_RESET 0 >> released erased

-- the registers of a chip's flash
abbrev pub config : Chip → ℕ
config Nrf52 = nrf52.NVMC_CONFIG
config Nrf54 = nrf54.RRAMC_CONFIG

abbrev pub ready : Chip → ℕ
ready Nrf52 = nrf52.NVMC_READY
ready Nrf54 = nrf54.RRAMC_READY

abbrev pub closing : Chip → Job
closing chip = write_word (config chip) 0 >> return 0

-- what follows each run, and what follows the last
abbrev pub settling : Chip → ℕ → Job
settling Nrf52 polls = wait_ready nrf52.NVMC_READY polls
settling Nrf54 polls = return 0

abbrev pub finishing : Chip → ℕ → Job
finishing Nrf52 polls = closing Nrf52
finishing Nrf54 polls = write_word nrf54.RRAMC_COMMIT 1 >> (wait_ready nrf54.RRAMC_READY polls >> closing Nrf54)

abbrev pub programming : Chip → Program → Job
programming chip p = runs (settling chip p.polls) p.stop p.len p.left 0 >> finishing chip p.polls

abbrev pub flashing : Chip → Flash → Job
flashing chip (F.Page page polls) = write_word nrf52.NVMC_ERASEPAGE page >> (wait_ready (ready chip) polls >> closing chip)
flashing chip (F.Words p) = programming chip p
flashing chip F.Close = closing chip

-- a write to the flash, and what is done then
abbrev pub writes : Chip → Op → ℕ → Flash → Job
writes chip w polls then = just w >> (settling chip polls >> flashing chip then)

abbrev pub waiting : Chip → Flash → ℕ → Job
waiting chip then n = wait_ready (ready chip) n >> flashing chip then

-- what a READY leads to
abbrev pub after_ready : Chip → Flash → ℕ → ℕ → Job
after_ready chip then left v = cond (eqb (v % 2) 1) (return 0) (wait_ready (ready chip) left) >> flashing chip then

abbrev pub enabling : Chip → Program → Job
enabling Nrf52 p = write_word nrf52.NVMC_CONFIG nrf52.NVMC_CONFIG_WEN >> waiting Nrf52 (F.Words p) p.polls
enabling Nrf54 p = write_word nrf54.RRAMC_CONFIG nrf54.RRAMC_CONFIG_WEN >> programming Nrf54 p

-- both chips are opened by the same word in a register of their own
pub enabling_is : (chip : Chip) (p : Program)
    → enabling chip p ≡ writes chip (O.WriteWord (config chip) nrf52.NVMC_CONFIG_WEN) p.polls (F.Words p)
enabling_is Nrf52 p = refl
enabling_is Nrf54 p = refl

abbrev pub flash_after : FlashStep → Chip → Flash → ℕ → Job
flash_after (S.Settle polls) chip then v = waiting chip then polls
flash_after (S.Wait left) chip then v = after_ready chip then left v
flash_after S.Next chip then v = flashing chip then

abbrev pub goes_on_of : NrfAt → ℕ → Job
goes_on_of A.Idr v = read_status (eqb v nrf52.CTRLAP_IDR_VALUE)
goes_on_of (A.Status known) v = leaves (Ok (answer known v))
goes_on_of (A.EraseAll polls) v = poll_erased polls
goes_on_of (A.Erasing left) v = after_erased left v
goes_on_of (A.Reset erased) v = releasing erased
goes_on_of (A.Release erased) v = released erased
goes_on_of (A.Flash step chip then) v = flash_after step chip then v
goes_on_of A.Last v = return 0

abbrev pub phase_after : NrfAt → Outcome → Job
phase_after p (Ok v) = goes_on_of p v
phase_after p (Err e) = fail e

abbrev pub nrf_after : At → Outcome → Job
nrf_after at o = phase_after (nrf_at_of at) o

pub erased_more : (n : ℕ) → (n ≡ 0 → ⊥) → poll_erased n ≡ op (O.ApRead nrf52.CTRLAP_ERASEALLSTATUS) (after_erased (n - 1)) fail
unfolding poll_erased
erased_more zero h = absurd (h refl)
erased_more (suc n) h = ap (λ (j : ℕ). op (O.ApRead nrf52.CTRLAP_ERASEALLSTATUS) (after_erased j) fail) (less n)

pub waiting_more : (chip : Chip) (then : Flash) (n : ℕ) → (n ≡ 0 → ⊥)
    → waiting chip then n ≡ op (O.ReadWord (ready chip)) (after_ready chip then (n - 1)) fail
unfolding wait_ready
waiting_more chip then zero h = absurd (h refl)
waiting_more chip then (suc n) h = ap (λ (j : ℕ). op (O.ReadWord (ready chip)) (after_ready chip then j) fail) (less n)
