-- What follows each operation of a connect. Serves the proofs only: the table of phases, and that it is the calls as written.
use Rattle.std.specs.Prelude.{ℕ, zero, suc, ◌-◌, ◌%◌, true, cond, List, [], ◌∷◌, ◌≡◌, refl, get_or, Ok, Err}
use Rattle.std.proofs.Common.{ap}
use Rattle.wire.specs.Laws.Numbers.{less}
use Rattle.wire.specs.declared.Call.{Call}
use Rattle.wire.specs.declared.Call.TheVariants as T
use Rattle.wire.specs.declared.Pattern.TheVariants as P
use Rattle.wire.specs.declared.ArmError.TheVariants as E
use Rattle.wire.specs.Outcomes.{Outcome}
use Rattle.wire_memap.specs.declared.Op.TheVariants as O
use Rattle.wire_memap.specs.Ports.{DPIDR, CTRL_STAT, SELECT}
use Rattle.call.specs.Job.{Job, op, ◌>>=◌, ◌>>◌, return, fail, keeping, dp_write}
use Rattle.call_at.specs.declared.At.{At}
use Rattle.call.specs.declared.Change.TheVariants as C
use Rattle.call_connect.specs.Connect.{
  parity,
  no_target_of,
  accepted,
  both_acks,
  poll_acks,
  power_up,
  set_up,
  connect_multidrop,
  probe_swd,
  connect_swd,
  reselect,
}
use Rattle.call_connect.specs.declared.How.{How}
use Rattle.call_connect.specs.declared.How.TheVariants as H
use Rattle.call_connect.specs.declared.ConnectAt.{ConnectAt}
use Rattle.call_connect.specs.declared.ConnectAt.TheVariants as A

-- the calls that are no transfers and come after Connect, the last one first
abbrev pub swd_line : List Call
swd_line =
    T.Sequence P.ResetIdle ∷ T.Sequence P.ResetHigh ∷ T.Sequence P.JtagToSwd
    ∷ T.Sequence P.ResetIdle ∷ T.Sequence P.ResetHigh ∷ []

abbrev pub multidrop_line : ℕ → List Call
multidrop_line targetsel =
    T.WriteBits 1 (parity targetsel) ∷ T.WriteBits 32 targetsel ∷ T.WriteBits 5 0 ∷ T.WriteBits 8 0x99 ∷ T.OutputEnable
    ∷ T.Sequence P.ResetIdle ∷ T.Sequence P.ResetHigh ∷ T.Sequence P.SwdActivation ∷ T.Sequence P.AlertIdle
    ∷ T.Sequence P.SelectionAlert ∷ T.Sequence P.AlertHigh ∷ T.Sequence P.SwdToDormant
    ∷ T.Sequence P.ResetIdle ∷ T.Sequence P.ResetHigh ∷ []

abbrev pub line : How → ℕ → List Call
line H.Probe targetsel = swd_line
line H.Swd targetsel = swd_line
line H.Multidrop targetsel = multidrop_line targetsel

-- the call that n more follow; before those of the list comes Connect
abbrev pub nth : List Call → ℕ → Call
nth cs n = get_or cs n T.Connect

-- what a DPIDR leads to
abbrev pub identified : How → ℕ → Job
identified H.Probe v = accepted v
identified H.Swd v = accepted v >>= set_up C.New
identified H.Multidrop v = accepted v >>= set_up C.Forget

-- n more calls that are no transfers, and then DPIDR
unfoldable pub line_from : How → ℕ → ℕ → Job
line_from how targetsel zero = op (O.DpRead DPIDR) (identified how) fail
line_from how targetsel (suc n) = op (O.Other (nth (line how targetsel) n)) (λ _. line_from how targetsel n) fail

abbrev pub polled : ℕ → ℕ → Job
polled dpidr n = poll_acks n >> return dpidr

-- what a CTRL/STAT leads to
abbrev pub after_poll : ℕ → ℕ → ℕ → Job
after_poll dpidr left v = cond (both_acks v) (return 0) (poll_acks left) >> return dpidr

abbrev pub selected_zero : ℕ → Job
selected_zero dpidr = keeping C.SelectZero >> (power_up >> return dpidr)

abbrev pub goes_on_of : ConnectAt → ℕ → Job
goes_on_of (A.Line how left targetsel) v = line_from how targetsel left
goes_on_of (A.Dpidr how) v = identified how v
goes_on_of (A.Abort dpidr) v = dp_write SELECT 0 >> selected_zero dpidr
goes_on_of (A.Select dpidr) v = selected_zero dpidr
goes_on_of (A.Power dpidr) v = polled dpidr 1024
goes_on_of (A.Poll dpidr left) v = after_poll dpidr left v
goes_on_of A.Pulse v = return 0

abbrev pub phase_after : ConnectAt → Outcome → Job
phase_after p (Ok v) = goes_on_of p v
phase_after p (Err e) = fail e

-- what the numbers of a call in flight say
abbrev pub ways : List How
ways = H.Probe ∷ H.Swd ∷ []

abbrev pub how_of : ℕ → How
how_of n = get_or ways n H.Multidrop

abbrev pub phases : At → List ConnectAt
phases at =
    A.Line (how_of at.a) at.b at.c ∷ A.Dpidr (how_of at.a) ∷ A.Abort at.a ∷ A.Select at.a ∷ A.Power at.a
    ∷ A.Poll at.a at.b ∷ []

abbrev pub connect_at_of : At → ConnectAt
connect_at_of at = get_or (phases at) (at.step % 32) A.Pulse

abbrev pub connect_after : At → Outcome → Job
connect_after at o = phase_after (connect_at_of at) o

pub multidrop_is : (targetsel : ℕ) → connect_multidrop targetsel ≡ line_from H.Multidrop targetsel 15
unfolding line_from
multidrop_is targetsel = refl

pub reselect_is : (targetsel : ℕ) → reselect targetsel ≡ line_from H.Multidrop targetsel 7
unfolding line_from
reselect_is targetsel = refl

pub probe_is : probe_swd ≡ line_from H.Probe 0 6
unfolding line_from
probe_is = refl

pub swd_is : connect_swd ≡ line_from H.Swd 0 6
unfolding line_from
swd_is = refl

pub no_target : (how : How) (v : ℕ) → no_target_of v ≡ true → identified how v ≡ fail E.NoTarget
no_target H.Probe v h = simp h
no_target H.Swd v h = simp h
no_target H.Multidrop v h = simp h

pub line_more : (how : How) (targetsel n : ℕ) → (n ≡ 0 → ⊥)
    → line_from how targetsel n ≡ op (O.Other (nth (line how targetsel) (n - 1))) (λ _. line_from how targetsel (n - 1)) fail
unfolding line_from
line_more how targetsel zero h = absurd (h refl)
line_more how targetsel (suc n) h = ap (λ (j : ℕ). op (O.Other (nth (line how targetsel) j)) (λ _. line_from how targetsel j) fail) (less n)

pub polled_more : (dpidr n : ℕ) → (n ≡ 0 → ⊥) → polled dpidr n ≡ op (O.DpRead CTRL_STAT) (after_poll dpidr (n - 1)) fail
unfolding poll_acks
polled_more dpidr zero h = absurd (h refl)
polled_more dpidr (suc n) h = ap (λ (j : ℕ). op (O.DpRead CTRL_STAT) (after_poll dpidr j) fail) (less n)
