-- A check on jobs and plans that needs no target: what a job does to SELECT, here and in the target, goes together. Serves the proofs only.
use Rattle.std.specs.Prelude.{ℕ, ◌+◌, Bool, true, false, ◌&&◌, cond, eqb, Ok, Err}
use Rattle.wire.specs.Wire.{Memory}
use Rattle.wire.specs.declared.ArmError.{ArmError}
use Rattle.wire.specs.Outcomes.{Outcome}
use Rattle.wire_memap.specs.Ports.{SELECT, a32}
use Rattle.wire_memap.specs.declared.Op.{Op}
use Rattle.wire_memap.specs.declared.Op.TheVariants as O
use Rattle.call.specs.Job.{Job, ends, op, keep, attempt, or_fail, ◌>>=◌}
use Rattle.session_calls.specs.Plan.{Plan}
use Rattle.session_calls.specs.Plan as P
use Rattle.call.specs.declared.Change.{Change}
use Rattle.call.specs.declared.Change.TheVariants as C
use Rattle.target.specs.Decode.{row_of}
use Rattle.agreement.specs.Demand3.{is_transfer}
use Rattle.agreement.specs.Laws.Facts.{steady, quiet, over}

-- what is known of SELECT: nothing; that it is not remembered; and that the target's is 0 besides
pub data Stage : Type 0 where
  any : Stage
  forgotten : Stage
  zeroed : Stage

-- what an operation or a change does to SELECT
pub data Effect : Type 0 where
  -- nothing
  none : Effect
  -- writes it where that is due, and remembers it
  selects : Effect
  -- forgets it
  forgets : Effect
  -- writes it as 0
  writes : Effect
  -- remembers it as 0
  remembers : Effect
  -- what a session does not admit
  unsound : Effect

-- a request that writes neither SELECT nor CSW nor DRW
abbrev pub calm : ℕ → Bool
calm q = over steady (row_of q) && over quiet (row_of q)

abbrev pub effect : Op → Effect
effect (O.DpRead addr) = cond (calm (2 + a32 addr)) none unsound
effect (O.DpWrite addr word) = cond (calm (a32 addr)) none (cond (eqb (a32 addr) SELECT && eqb word 0) writes unsound)
effect (O.ApRead addr) = unsound
effect (O.ApWrite addr word) = unsound
effect (O.ReadWord addr) = selects
effect (O.WriteWord addr word) = selects
effect (O.ReadWords addr n last) = selects
effect (O.WriteWords addr n last) = selects
effect (O.Other c) = cond (is_transfer c) unsound none

abbrev pub effect_of : Change → Effect
effect_of C.Nothing = none
effect_of C.New = forgets
effect_of C.Forget = forgets
effect_of C.SelectZero = remembers
effect_of (C.Apsel a) = unsound
effect_of (C.StoreWords at n) = none
effect_of (C.StorePart at skip count word) = none
effect_of (C.LoadWords at n) = none
effect_of (C.Patch at skip count word) = none
effect_of (C.Put at word) = none
effect_of (C.Registers registers) = none
effect_of (C.Frame registers) = none

-- SELECT is written as 0 only where it is forgotten, and remembered so only after that
abbrev pub Admits : Effect → Stage → Type 0
Admits none s = Unit {0}
Admits selects s = Unit {0}
Admits forgets s = Unit {0}
Admits writes any = ⊥
Admits writes forgotten = Unit {0}
Admits writes zeroed = Unit {0}
Admits remembers any = ⊥
Admits remembers forgotten = ⊥
Admits remembers zeroed = Unit {0}
Admits unsound s = ⊥

abbrev pub next : Effect → Stage → Stage
next none s = s
next selects s = any
next forgets s = forgotten
next writes s = zeroed
next remembers s = any
next unsound s = any

-- every operation and change is admitted where it stands; after an error nothing is known of SELECT
unfoldable pub Sound : Job → Stage → Type 0
Sound (ends o) s = Unit {0}
Sound (op w good bad) s = Admits (effect w) s × ((v : ℕ) → Sound (good v) (next (effect w) s)) × ((e : ArmError) → Sound (bad e) any)
Sound (keep c j) s = Admits (effect_of c) s × Sound j (next (effect_of c) s)

-- of a plan every job is
unfoldable pub Sounds : Plan → Type 0
Sounds (P.ends o) = Unit {0}
Sounds (P.call j k) = Sound j any × ((n : ℕ) (m : Memory) (o : Outcome) → Sounds (k n m o))

-- what is sound wherever nothing is known is sound at every stage
admits_more : (x : Effect) (s : Stage) → Admits x any → Admits x s
admits_more none s h = tt
admits_more selects s h = tt
admits_more forgets s h = tt
admits_more writes s h = absurd h
admits_more remembers s h = absurd h
admits_more unsound s h = absurd h

next_more : (x : Effect) (s : Stage) (P : Stage → Type 0) → Admits x any → (P any → P s) → P (next x any) → P (next x s)
next_more none s P h f p = f p
next_more selects s P h f p = p
next_more forgets s P h f p = p
next_more writes s P h f p = absurd h
next_more remembers s P h f p = absurd h
next_more unsound s P h f p = absurd h

pub anywhere : (j : Job) (s : Stage) → Sound j any → Sound j s
unfolding Sound
anywhere (ends o) s h = tt
anywhere (op w good bad) s h =
    (admits_more (effect w) s h.0, (λ v. next_more (effect w) s (Sound (good v)) h.0 (anywhere (good v) s) (h.1 v)), h.2)
anywhere (keep c j) s h = (admits_more (effect_of c) s h.0, next_more (effect_of c) s (Sound j) h.0 (anywhere j s) h.1)

-- what chains sound jobs
pub sound_attempt : (j : Job) (k : Outcome → Job) (s : Stage) → Sound j s → ((o : Outcome) → Sound (k o) any) → Sound (attempt j k) s
unfolding Sound
sound_attempt (ends o) k s h g = anywhere (k o) s (g o)
sound_attempt (op w good bad) k s h g =
    (h.0, (λ v. sound_attempt (good v) k (next (effect w) s) (h.1 v) g), λ e. sound_attempt (bad e) k any (h.2 e) g)
sound_attempt (keep c j) k s h g = (h.0, sound_attempt j k (next (effect_of c) s) h.1 g)

pub sound_bind : (j : Job) (f : ℕ → Job) → Sound j any → ((v : ℕ) → Sound (f v) any) → Sound (j >>= f) any
unfolding Sound
sound_bind j f h g = sound_attempt j (or_fail f) any h go
  where
    go : (o : Outcome) → Sound (or_fail f o) any
    go (Ok v) = g v
    go (Err e) = tt

pub sound_cond : (c : Bool) (i j : Job) → Sound i any → Sound j any → Sound (cond c i j) any
sound_cond true i j h g = h
sound_cond false i j h g = g
