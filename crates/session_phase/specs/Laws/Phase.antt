-- A phase by whether the session is open is open so; a call that is broken off; losses of several transport calls. Serves the proofs only.
use Rattle.std.specs.Prelude.{Bool, true, false, ◌||◌, ◌≡◌, refl}
use Rattle.wire.specs.Wire.{spent}
use Rattle.session_phase.specs.Phase.{is_open, phase_of, over, phase_now}
use Rattle.session_phase.specs.declared.Kind.{Kind}
use Rattle.session_phase.specs.declared.Phase.TheVariants as P

pub open_phase : (opens : Bool) → is_open (phase_of opens) ≡ opens
open_phase true = refl
open_phase false = refl

-- Spent closes, whatever was lost
pub spent_closed : (kind : Kind) (lost : Bool) → P.Closed ≡ phase_now kind lost (over spent)
spent_closed kind true = refl
spent_closed kind false = refl

-- lost by one, or by those after it
pub or_more : (a b c : Bool) → (a || b) || c ≡ a || (b || c)
or_more true b c = refl
or_more false b c = refl

pub or_none : (a : Bool) → a || false ≡ a
or_none true = refl
or_none false = refl
