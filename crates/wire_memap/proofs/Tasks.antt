-- What TAR and a task are, once they are begun: theorems over `accesses`, so that an edit of an access falls at `accesses` itself.
use Rattle.std.specs.Prelude.{ℕ, List, ◌≡◌, refl, set, get_or}
use Rattle.std.proofs.Common.{◌∙◌, arith, eq-eqb, ne_eqb, length-set}
use Rattle.wire_memap.specs.Action.{Then}
use Rattle.wire_memap.specs.Ports.{ap_access, ap_writing, CSW_DEFAULT, CSW, TAR}
use Rattle.wire_memap.specs.Laws.Doing.{CSW_SENT, TAR_SENT, OpSized, stands, by_words}
use Rattle.wire_memap.specs.Laws.Flight.{Accessed, Begins, Begun, accesses, in_phase, ensuring_task, tar_after, tasked, task_by}

-- TAR once CSW is known
pub tar_begins : (t m : List ℕ) {u v : List ℕ} → Accessed TAR_SENT (ap_writing TAR) TAR (get_or (set m 10 1) 4 0) t (set m 10 1) u v → Begun (tar_after m) t m u v
tar_begins t m {u} {v} a ws f = record { tree = λ b k. here b k ∙ there.tree b k; fits = there.fits; counted = there.counted }
  where
    there : Begins (λ k. ap_access (ap_writing TAR) TAR (get_or (set m 10 1) 4 0) (in_phase TAR_SENT (set m 10 1) k)) (set m 10 1) ws u v
    there = accesses a (omega arith) (f.0, length-set m 10 1 ∙ f.1) ws

    here : (b : List ℕ) (k : Then) → tar_after m k (stands m ws b) ≡ ap_access (ap_writing TAR) TAR (get_or (set m 10 1) 4 0) (in_phase TAR_SENT (set m 10 1) k) (stands (set m 10 1) ws b)
    here b k = by_words
        (λ m. tar_after m k (stands m ws b) ≡ ap_access (ap_writing TAR) TAR (get_or (set m 10 1) 4 0) (in_phase TAR_SENT (set m 10 1) k) (stands (set m 10 1) ws b))
        (λ m₀ m₁ m₂ m₃ m₄ m₅ m₆ m₇ m₈ m₉ m₁₀ m₁₁. refl) m f.1

tasked_sized : (kind addr word n last : ℕ) (m : List ℕ) → OpSized m → OpSized (tasked kind addr word n last m)
tasked_sized kind addr word n last = by_words (λ m. OpSized (tasked kind addr word n last m)) (λ _ _ _ _ _ _ _ _ _ _ _ _. refl)

module _ (kind addr word n last : ℕ) (t m : List ℕ) {u v : List ℕ} where
  pub task_known : get_or (tasked kind addr word n last m) 10 0 ≡ 1 → Accessed TAR_SENT (ap_writing TAR) TAR addr t (tasked kind addr word n last m) u v
      → Begun (ensuring_task (task_by kind addr word last) n) t m u v
  task_known e a ws f = record { tree = λ b k. here b k ∙ there.tree b k; fits = there.fits; counted = there.counted }
    where
      m₅ : List ℕ → List ℕ
      m₅ m = tasked kind addr word n last m

      there : Begins (λ k. ap_access (ap_writing TAR) TAR addr (in_phase TAR_SENT (m₅ m) k)) (m₅ m) ws u v
      there = accesses a (omega arith) (f.0, tasked_sized kind addr word n last m f.1) ws

      here : (b : List ℕ) (k : Then) → ensuring_task (task_by kind addr word last) n k (stands m ws b) ≡ ap_access (ap_writing TAR) TAR addr (in_phase TAR_SENT (m₅ m) k) (stands (m₅ m) ws b)
      here b k = by_words (λ m. get_or (m₅ m) 10 0 ≡ 1
          → ensuring_task (task_by kind addr word last) n k (stands m ws b) ≡ ap_access (ap_writing TAR) TAR addr (in_phase TAR_SENT (m₅ m) k) (stands (m₅ m) ws b))
          (λ m₀ m₁ m₂ m₃ m₄ m₅ m₆ m₇ m₈ m₉ m₁₀ m₁₁ e. simp (eq-eqb _ _ e)) m f.1 e

  pub task_unknown : (get_or (tasked kind addr word n last m) 10 0 ≡ 1 → ⊥) → Accessed CSW_SENT (ap_writing CSW) CSW CSW_DEFAULT t (tasked kind addr word n last m) u v
      → Begun (ensuring_task (task_by kind addr word last) n) t m u v
  task_unknown e a ws f = record { tree = λ b k. here b k ∙ there.tree b k; fits = there.fits; counted = there.counted }
    where
      m₅ : List ℕ → List ℕ
      m₅ m = tasked kind addr word n last m

      there : Begins (λ k. ap_access (ap_writing CSW) CSW CSW_DEFAULT (in_phase CSW_SENT (m₅ m) k)) (m₅ m) ws u v
      there = accesses a (omega arith) (f.0, tasked_sized kind addr word n last m f.1) ws

      here : (b : List ℕ) (k : Then) → ensuring_task (task_by kind addr word last) n k (stands m ws b) ≡ ap_access (ap_writing CSW) CSW CSW_DEFAULT (in_phase CSW_SENT (m₅ m) k) (stands (m₅ m) ws b)
      here b k = by_words (λ m. (get_or (m₅ m) 10 0 ≡ 1 → ⊥)
          → ensuring_task (task_by kind addr word last) n k (stands m ws b) ≡ ap_access (ap_writing CSW) CSW CSW_DEFAULT (in_phase CSW_SENT (m₅ m) k) (stands (m₅ m) ws b))
          (λ m₀ m₁ m₂ m₃ m₄ m₅ m₆ m₇ m₈ m₉ m₁₀ m₁₁ e. simp (ne_eqb _ _ e)) m f.1 e
