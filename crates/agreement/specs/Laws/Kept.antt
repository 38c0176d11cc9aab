-- What every call finds and leaves: a well-formed target, access port 0, and, where the session is open, agreement.
-- Serves the proofs only.
use Rattle.std.specs.Prelude.{ℕ, Bool, true, false, ◌≡◌, refl, Ok, Err}
use Rattle.std.proofs.Common.{arith}
use Rattle.target.specs.WellFormed.{WellFormed}
use Rattle.session_calls.specs.Calls.{is_connect}
use Rattle.session_calls.specs.Session.{Standing, Lent, check_of}
use Rattle.session_calls.specs.declared.SessionCall.{SessionCall}
use Rattle.agreement.specs.History.{Moment}
use Rattle.agreement.specs.Demand3.{Agree}

pub record Kept (x : Moment) : Type 0 where
  pub formed : WellFormed x.target x.mem
  pub port : x.standing.remembered.apsel ≡ 0
  pub agree : x.standing.is_open ≡ true → Agree x.standing.remembered x.target

-- a closed session admits a connect only
pub admitted_open : (s : Standing) (c : SessionCall) (l : Lent) → check_of s c l ≡ (Ok tt) → is_connect c ≡ false → s.is_open ≡ true
admitted_open s c l h e = go s.is_open h
  where
    go : (was : Bool) → check_of (record { is_open = was; remembered = s.remembered }) c l ≡ (Ok tt) → was ≡ true
    go true h = refl
    go false h = let z : ◌≡◌ {A = ℕ} 0 1 = cc in absurd (omega arith)
