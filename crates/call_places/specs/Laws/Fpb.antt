-- What the numbers of a breakpoint call in flight say. Serves the proofs only.
use Rattle.std.specs.Prelude.{◌%◌, List, [], ◌∷◌, eqb, get_or, None, Some}
use Rattle.call_at.specs.declared.At.{At}
use Rattle.call_places.specs.declared.FpbAt.{FpbAt}
use Rattle.call_places.specs.declared.FpbAt.TheVariants as A

abbrev pub phases : At → List FpbAt
phases at =
    A.SetCtrl at.a
    ∷ A.Enable at.a (at.b % 256)
    ∷ A.Seek at.a (at.b % 256) (at.c % 256) None
    ∷ A.Seek at.a (at.b % 256) (at.c % 256) (Some (at.d % 256))
    ∷ A.Revision (eqb at.d 1) at.a
    ∷ A.Count (eqb at.d 1) at.a
    ∷ A.Find (eqb at.d 1) at.a (at.b % 256) (at.c % 256)
    ∷ []

abbrev pub fpb_at_of : At → FpbAt
fpb_at_of at = get_or (phases at) (at.step % 32) A.Write
