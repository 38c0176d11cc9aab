-- Laws of Job. Serves the proofs only: a call inside a call is one chain.
use Rattle.std.specs.Prelude.{ℕ, ◌≡◌, refl, Ok, Err}
use Rattle.std.proofs.Common.{ap₂, ap, ◌∙◌}
use Rattle.std.proofs.Math.Path.{fun_ext}
use Rattle.wire.specs.declared.ArmError.{ArmError}
use Rattle.wire.specs.Outcomes.{Outcome}
use Rattle.call.specs.Job.{Job, ends, op, keep, attempt, or_fail, ◌>>=◌, return}

attempt_assoc : (j : Job) (f g : Outcome → Job) → attempt (attempt j f) g ≡ attempt j (λ o. attempt (f o) g)
attempt_assoc (ends o) f g = refl
attempt_assoc (op w good bad) f g = ap₂ (op w) (fun_ext (λ (v : ℕ). attempt_assoc (good v) f g)) (fun_ext (λ (e : ArmError). attempt_assoc
    (bad e) f g))
attempt_assoc (keep c j) f g = ap (keep c) (attempt_assoc j f g)

or_fail_lem : (f g : ℕ → Job) (o : Outcome) → attempt (or_fail f o) (or_fail g) ≡ or_fail (λ v. f v >>= g) o
or_fail_lem f g (Ok v) = refl
or_fail_lem f g (Err e) = refl

pub bind_assoc : (j : Job) (f g : ℕ → Job) → ((j >>= f) >>= g) ≡ (j >>= (λ v. f v >>= g))
bind_assoc j f g = attempt_assoc j (or_fail f) (or_fail g) ∙ ap (attempt j) (fun_ext (or_fail_lem f g))

pub bind_return : (j : Job) → (j >>= return) ≡ j
bind_return (ends (Ok v)) = refl
bind_return (ends (Err e)) = refl
bind_return (op w good bad) = ap₂ (op w) (fun_ext (λ (v : ℕ). bind_return (good v))) (fun_ext (λ (e : ArmError). bind_return (bad e)))
bind_return (keep c j) = ap (keep c) (bind_return j)
