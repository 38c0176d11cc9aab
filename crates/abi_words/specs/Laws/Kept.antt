-- What the stores of the code leave. Serves the proofs only.
use Rattle.std.specs.Prelude.{ℕ, List, [], ◌∷◌, ◌≡◌, refl, length, drop, get_or, set}
use Rattle.std.proofs.Common.{ap, subst, ◌∙◌}
use Rattle.std.proofs.lemmas.List.Edits.{sets}
use Rattle.wire.specs.Laws.Rows.{spell, spelled}
use Rattle.engine.specs.declared.State.{State}
use Rattle.session_phase.specs.declared.Phase.{Phase}
use Rattle.session.specs.declared.Session.{Session}
use Rattle.abi_words.specs.Words.{words_from, phase_at, state_of, KeepsState, KeepsSession}

-- the words of a state, stored in their places
abbrev pub put_state : State → List ℕ → List ℕ
put_state s ws = sets (sets (sets ws 3 (words_from 7 0 s.transfer)) 10 (words_from 12 0 s.op)) 22 (words_from 9 0 s.call)

-- a state is its words
module _ (s : State) (t : length s.transfer ≡ 7) (m : length s.op ≡ 12) (c : length s.call ≡ 9) where
  spelled_state : record { transfer = words_from 7 0 s.transfer; op = words_from 12 0 s.op; call = words_from 9 0 s.call } ≡ s
  spelled_state =
      ap (λ (l : List ℕ). record { transfer = l; op = words_from 12 0 s.op; call = words_from 9 0 s.call })
      (subst (λ (l : List ℕ). words_from 7 0 l ≡ l) (spelled 7 s.transfer t) refl)
      ∙ ap (λ (l : List ℕ). record { transfer = s.transfer; op = l; call = words_from 9 0 s.call })
      (subst (λ (l : List ℕ). words_from 12 0 l ≡ l) (spelled 12 s.op m) refl)
      ∙ ap (λ (l : List ℕ). record { transfer = s.transfer; op = s.op; call = l })
      (subst (λ (l : List ℕ). words_from 9 0 l ≡ l) (spelled 9 s.call c) refl)

  -- and is read back where it was stored
  pub keeps_state : (ws : List ℕ) → length ws ≡ 64 → KeepsState s ws (put_state s ws)
  keeps_state ws h = subst (λ (l : List ℕ). KeepsState s l (put_state s l)) (spelled 64 ws h)
      (record { state = spelled_state; others = refl; rest = refl; sized = refl })

-- the same where the words of the call itself stay
pub keeps_flight : (t m : List ℕ) → length t ≡ 7 → length m ≡ 12 → (ws : List ℕ) → length ws ≡ 64
    → KeepsState (record { transfer = t; op = m; call = words_from 9 22 ws }) ws (sets (sets ws 3 (words_from 7 0 t)) 10 (words_from 12 0 m))
keeps_flight t m ht hm ws h = subst
    (λ (l : List ℕ). KeepsState (record { transfer = t; op = m; call = words_from 9 22 l }) l (sets (sets l 3 (words_from 7 0 t)) 10 (words_from 12 0 m)))
    (spelled 64 ws h)
    (record { state = spelled_state (record { transfer = t; op = m; call = words_from 9 22 (spell 64 ws) }) ht hm refl; others = refl; rest = refl; sized = refl })

-- the three words of a session before them
abbrev pub put_head : ℕ → ℕ → ℕ → List ℕ → List ℕ
put_head phase budget left ws = set (set (set ws 0 phase) 1 budget) 2 left

head_kept : (phase budget left : ℕ) (ws : List ℕ) → length ws ≡ 64
    → (words_from 3 0 (put_head phase budget left ws) ≡ phase ∷ budget ∷ left ∷ []) × (drop 31 (put_head phase budget left ws) ≡ drop 31 ws)
    × (length (put_head phase budget left ws) ≡ 64)
head_kept phase budget left ws h =
    subst (λ (l : List ℕ). (words_from 3 0 (put_head phase budget left l) ≡ phase ∷ budget ∷ left ∷ []) × (drop 31 (put_head phase budget left l) ≡ drop 31 l)
    × (length (put_head phase budget left l) ≡ 64)) (spelled 64 ws h) (refl, refl, refl)

pub keeps_session : (s : Session) (phase : ℕ) (ws₀ : List ℕ) {ws : List ℕ} → phase_at phase ≡ s.phase → length ws₀ ≡ 64
    → (length (put_head phase s.budget s.left ws₀) ≡ 64 → KeepsState s.state (put_head phase s.budget s.left ws₀) ws)
    → KeepsSession s ws₀ ws
keeps_session s phase ws₀ {ws} e h g = record {
  session = ap (λ (l : List ℕ). record { phase = phase_at (get_or l 0 0); budget = get_or l 1 0; left = get_or l 2 0; state = state_of ws }) (k.others ∙ p.0)
      ∙ ap (λ (x : Phase). record { phase = x; budget = s.budget; left = s.left; state = state_of ws }) e
      ∙ ap (λ (x : State). record { phase = s.phase; budget = s.budget; left = s.left; state = x }) k.state;
  rest = k.rest ∙ p.1;
  sized = k.sized;
}
  where
    p : (words_from 3 0 (put_head phase s.budget s.left ws₀) ≡ phase ∷ s.budget ∷ s.left ∷ [])
        × (drop 31 (put_head phase s.budget s.left ws₀) ≡ drop 31 ws₀) × (length (put_head phase s.budget s.left ws₀) ≡ 64)
    p = head_kept phase s.budget s.left ws₀ h

    k : KeepsState s.state (put_head phase s.budget s.left ws₀) ws
    k = g p.2
