-- What the functions that C and Rust call answer (include/bazkondur.h): a session and an engine in 64 words each, by the session's and the
-- engine's own contracts, over what any words mean.
use Rattle.std.specs.Prelude.{ℕ, false, List, ◌≡◌, length, drop, None, Some}
use Rattle.wire.specs.Outcomes.{Answer}
use Rattle.wire_memap.specs.Laws.Doing.{remembered_of}
use Rattle.call.specs.Change.{fresh}
use Rattle.engine_calls.specs.declared.EngineCall.{EngineCall}
use Rattle.session_phase.specs.declared.Phase.TheVariants.{Closed}
use Rattle.session_calls.specs.Session.{Lent, closed}
use Rattle.session_calls.specs.declared.SessionCall.{SessionCall}
use Rattle.session_calls.specs.declared.Order.{Order}
use Rattle.session.specs.Answer.{standing}
use Rattle.session.specs.declared.Session.{Session}
use Rattle.session.specs.declared.Reply.{Reply}
use Rattle.session_steps.specs.Step.{Started, Stepped}
use Rattle.abi_calls.specs.Given.{engine_call_of, session_call_of}
use Rattle.abi_words.specs.Words.{words_from, session_of}
use Rattle.abi_words.specs.Numbers.{next_numbers}
use Rattle.abi_steps.specs.Engine.{Unchanged, EngineStarted, under_way}

-- The session in ws and its reply are as P has them; the reply is told in numbers, and the words that mean nothing are as in ws₀.
pub record SessionSays (P : Session → Reply → Type 0) (ws₀ ws next bytes : List ℕ) : Type 0 where
  pub reply : Reply
  pub answers : P (session_of ws) reply
  pub numbers : next ≡ next_numbers reply.next
  pub hands : bytes ≡ reply.bytes
  pub rest : drop 31 ws ≡ drop 31 ws₀
  pub sized : length ws ≡ 64

-- the start of what is ordered
pub record Begun (o : Order) (ws₀ : List ℕ) (l₀ : Lent) (ws next bytes : List ℕ) (l : Lent) : Type 0 where
  pub says : SessionSays (λ s r. Started (session_of ws₀) o l₀ s r l) ws₀ ws next bytes

-- by number and arguments: the call that they stand for, or 255 and nothing changed where they stand for none
pub record Begins (call budget : ℕ) (args ws₀ : List ℕ) (l₀ : Lent) (ws next bytes : List ℕ) (l : Lent) : Type 0 where
  pub asked : (c : SessionCall) → session_call_of call args ≡ Some c → Begun (record { call = c; budget = budget }) ws₀ l₀ ws next bytes l
  pub bad : session_call_of call args ≡ None → Unchanged 255 ws₀ l₀ ws next bytes l

-- a step with the answer a
pub record GoesOn (a : Answer) (ws₀ : List ℕ) (l₀ : Lent) (ws next bytes : List ℕ) (l : Lent) : Type 0 where
  pub says : SessionSays (λ s r. Stepped (session_of ws₀) a l₀ s r l) ws₀ ws next bytes

-- the same of the engine by itself, whose steps are `EngineStepped`
pub record EngineBegins (call : ℕ) (args ws₀ : List ℕ) (l₀ : Lent) (ws next bytes : List ℕ) (l : Lent) : Type 0 where
  pub asked : (x : EngineCall) → engine_call_of call args ≡ Some x → EngineStarted x ws₀ l₀ ws next bytes l
  pub bad : engine_call_of call args ≡ None → Unchanged 255 ws₀ l₀ ws next bytes l

-- a new session: closed, nothing known, no call under way
pub record NewSession (ws₀ ws : List ℕ) : Type 0 where
  pub stands : standing (session_of ws) ≡ closed
  pub phase : (session_of ws).phase ≡ Closed
  pub rest : drop 31 ws ≡ drop 31 ws₀
  pub sized : length ws ≡ 64

-- and a new engine
pub record NewEngine (ws₀ ws : List ℕ) : Type 0 where
  pub knows : remembered_of (words_from 12 10 ws) ≡ fresh
  pub idle : under_way ws ≡ false
  pub others : words_from 3 0 ws ≡ words_from 3 0 ws₀
  pub rest : drop 31 ws ≡ drop 31 ws₀
  pub sized : length ws ≡ 64
