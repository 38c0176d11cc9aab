-- What a loop in C or Rust over bazkondur_start and bazkondur_step has seen of one call, whatever was answered: it steps while `kind`, the
-- first of the numbers, is not 0. The reply that the numbers tell stands beside them.
use Rattle.std.specs.Prelude.{ℕ, List, [], ◌∷◌, ◌++◌, ◌≡◌, get_or}
use Rattle.wire.specs.Outcomes.{Answer}
use Rattle.session_calls.specs.Session.{Lent}
use Rattle.session_calls.specs.declared.Order.{Order}
use Rattle.session.specs.declared.Reply.{Reply}
use Rattle.bazkondur.specs.Linked.{Begun, GoesOn}

pub data Linked (ws₀ : List ℕ) (o : Order) (l₀ : Lent) : List Answer → List Reply → (ws next bytes : List ℕ) → Reply → Lent → Type 0 where
  begun : {ws next bytes : List ℕ} {l : Lent} (g : Begun o ws₀ l₀ ws next bytes l) → Linked ws₀ o l₀ [] [] ws next bytes g.says.reply l
  more : {answers : List Answer} {seen : List Reply} {ws next bytes ws' next' bytes' : List ℕ} {r : Reply} {l l' : Lent} (a : Answer)
      → Linked ws₀ o l₀ answers seen ws next bytes r l → (get_or next 0 0 ≡ 0 → ⊥) → (g : GoesOn a ws l ws' next' bytes' l')
      → Linked ws₀ o l₀ (answers ++ a ∷ []) (seen ++ r ∷ []) ws' next' bytes' g.says.reply l'
