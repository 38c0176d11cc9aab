-- What the numbers of a call in flight say. Serves the proofs only.
use Rattle.std.specs.Prelude.{ℕ, ◌/◌, ◌%◌, List, [], ◌∷◌, eqb, get_or}
use Rattle.wire.specs.Laws.Told.{outcome_of}
use Rattle.call_at.specs.declared.At.{At}
use Rattle.call_places.specs.declared.AccessAt.{AccessAt}
use Rattle.call_places.specs.declared.Search.{Search}
use Rattle.call_places.specs.declared.FindStep.{FindStep}
use Rattle.call_places.specs.declared.Plan.{Plan}
use Rattle.call_places.specs.declared.Then.{Then}
use Rattle.call_places.specs.declared.RunStep.{RunStep}
use Rattle.call_places.specs.declared.CoreAt.{CoreAt}
use Rattle.call_places.specs.declared.Wait.TheVariants as W
use Rattle.call_places.specs.declared.AccessAt.TheVariants as A
use Rattle.call_places.specs.declared.FindStep.TheVariants as F
use Rattle.call_places.specs.declared.Then.TheVariants as T
use Rattle.call_places.specs.declared.RunStep.TheVariants as R
use Rattle.call_places.specs.declared.CoreAt.TheVariants as P

abbrev pub accesses : ℕ → List AccessAt
accesses n =
    A.Whole ∷ A.Halted ∷ A.Asked W.Halt ∷ A.Asked W.Read ∷ A.Asked W.Write ∷ A.Poll W.Halt n ∷ A.Poll W.Read n ∷ A.Poll W.Write n ∷ []

abbrev pub access_of : ℕ → ℕ → AccessAt
access_of kind n = get_or (accesses n) kind (A.Data (n % 256))

abbrev pub finds : List FindStep
finds = F.Table ∷ F.Entry ∷ F.Low ∷ []

abbrev pub find_of : ℕ → FindStep
find_of n = get_or finds n F.High

abbrev pub runs : List RunStep
runs = R.Planted ∷ R.Masked ∷ R.Released ∷ []

abbrev pub run_of : ℕ → RunStep
run_of n = get_or runs n R.Look

abbrev pub plan_of : At → Plan
plan_of at = record { trampoline = at.c; finish = eqb (at.e % 2) 1; polls = at.d }

abbrev pub thens : At → List Then
thens at = T.End ∷ T.Save at.b (plan_of at) ∷ T.Set at.b (plan_of at) ∷ T.Result ∷ []

abbrev pub then_of : At → Then
then_of at = get_or (thens at) (at.step / 8 % 8) (T.Restore at.b at.c)

abbrev pub search_of : At → Search
search_of at = record { want = at.b; table = at.c % 65536; left = at.d % 65536 }

abbrev pub phases : At → List CoreAt
phases at =
    P.Access (access_of (at.e / 2) at.a) (then_of at)
    ∷ P.Find (find_of at.e) at.a (search_of at)
    ∷ P.Run (run_of (at.e / 2)) at.a (plan_of at)
    ∷ P.Wait at.a
    ∷ []

abbrev pub core_at_of : At → CoreAt
core_at_of at = get_or (phases at) (at.step % 8) (P.Over (eqb at.e 1) (outcome_of at.b at.a))
