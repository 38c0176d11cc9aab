-- A session and an engine in the 64 words that another language lends: any words are some session. Words 31 to 63 mean nothing.
use Rattle.std.specs.Prelude.{ℕ, zero, suc, true, false, List, [], ◌∷◌, ◌≡◌, length, drop, get_or}
use Rattle.engine.specs.declared.State.{State}
use Rattle.session_phase.specs.declared.Kind.TheVariants.{Plain, Connect}
use Rattle.session_phase.specs.declared.Phase.{Phase}
use Rattle.session_phase.specs.declared.Phase.TheVariants.{Closed, Open, Running}
use Rattle.session.specs.declared.Session.{Session}

-- n words from place i on; 0 where there is none
abbrev pub words_from : ℕ → ℕ → List ℕ → List ℕ
words_from zero i ws = []
words_from (suc n) i ws = get_or ws i 0 ∷ words_from n (suc i) ws

-- word 0: closed, open, or under way, by the kind of the call and whether an answer was lost; any other number is closed
abbrev pub phases : List Phase
phases = Closed ∷ Open ∷ Running Plain false ∷ Running Plain true ∷ Running Connect false ∷ Running Connect true ∷ []

abbrev pub phase_at : ℕ → Phase
phase_at n = get_or phases n Closed

-- words 3 to 30: the call in flight and what is remembered
abbrev pub state_of : List ℕ → State
state_of ws = record { transfer = words_from 7 3 ws; op = words_from 12 10 ws; call = words_from 9 22 ws }

abbrev pub session_of : List ℕ → Session
session_of ws = record { phase = phase_at (get_or ws 0 0); budget = get_or ws 1 0; left = get_or ws 2 0; state = state_of ws }

-- the words ws hold an engine or a session, and those of ws₀ that mean nothing are as they were
pub record KeepsState (s : State) (ws₀ ws : List ℕ) : Type 0 where
  pub state : state_of ws ≡ s
  pub others : words_from 3 0 ws ≡ words_from 3 0 ws₀
  pub rest : drop 31 ws ≡ drop 31 ws₀
  pub sized : length ws ≡ 64

pub record KeepsSession (s : Session) (ws₀ ws : List ℕ) : Type 0 where
  pub session : session_of ws ≡ s
  pub rest : drop 31 ws ≡ drop 31 ws₀
  pub sized : length ws ≡ 64
