-- What the engine may conclude from an answer: WAIT is the line's and never the target's, and FAULT is never a loss.
use Rattle.std.specs.Prelude.{Bool, true, false, cond, ◌≡◌, refl, ℕ, eqb, Err}
use Rattle.std.proofs.Common.{arith}
use Rattle.std.proofs.lemmas.Bool.{eqb-false}
use Rattle.wire.specs.declared.DapError.TheVariants as W
use Rattle.target.specs.declared.Loss.{Loss}
use Rattle.target.specs.declared.Loss.TheVariants.{Ack, NotSupported, Other}
use Rattle.target.specs.Deliver.{Reply, ok, fault, answer_of}
use Rattle.target.specs.Line.{ack_of, error_of}

pub target_never_waits : (r : Reply) → answer_of r ≡ Err (W.SwdError 2) → ⊥
target_never_waits (ok v) h = let z : ◌≡◌ {A = ℕ} 0 1 = cc in omega arith
target_never_waits fault h = let z : ◌≡◌ {A = ℕ} 4 2 = cc in omega arith

ack_other : (k : ℕ) → (ack_of k ≡ 2 → ⊥) × (ack_of k ≡ 4 → ⊥)
ack_other k = go (eqb k 2) refl (eqb k 4) refl
  where
    go : (a : Bool) → eqb k 2 ≡ a → (b : Bool) → eqb k 4 ≡ b → (cond a 7 (cond b 7 k) ≡ 2 → ⊥) × (cond a 7 (cond b 7 k) ≡ 4 → ⊥)
    go true p b q = ((λ h. omega arith), λ h. omega arith)
    go false p true q = ((λ h. omega arith), λ h. omega arith)
    go false p false q = (eqb-false k 2 p, eqb-false k 4 q)

pub loss_no_wait : (e : Loss) → error_of e ≡ Err (W.SwdError 2) → ⊥
loss_no_wait (Ack k) h = (ack_other k).0 (cc)
loss_no_wait NotSupported h = let z : ◌≡◌ {A = ℕ} 0 1 = cc in omega arith
loss_no_wait Other h = let z : ◌≡◌ {A = ℕ} 0 1 = cc in omega arith

pub loss_no_fault : (e : Loss) → error_of e ≡ Err (W.SwdError 4) → ⊥
loss_no_fault (Ack k) h = (ack_other k).1 (cc)
loss_no_fault NotSupported h = let z : ◌≡◌ {A = ℕ} 0 1 = cc in omega arith
loss_no_fault Other h = let z : ◌≡◌ {A = ℕ} 0 1 = cc in omega arith
