-- The calls of one transfer, whatever is answered: `transfer_calls`. By induction on the tries that are left: a WAIT makes the same
-- call again, any other error makes one ABORT.
use Rattle.std.specs.Prelude.{ℕ, zero, suc, Bool, true, false, List, [], ◌∷◌, refl, eqb, Ok, Err}
use Rattle.std.proofs.Common.{ap, arith}
use Rattle.wire.specs.Wire.{Memory, done, play}
use Rattle.wire_transfer.specs.Transfer.{clear_sticky_errors, after_ack, after_answer, tries, transfer}
use Rattle.wire_transfer.specs.Count.{Tried}
use Rattle.wire.specs.declared.Call.{Call}
use Rattle.wire.specs.declared.Call.TheVariants as C
use Rattle.wire.specs.Outcomes.{Answer}
use Rattle.wire.specs.declared.DapError.TheVariants.{SwdError, NotSupported, Other}
use Rattle.wire.specs.declared.ArmError.{ArmError}
use Rattle.wire.specs.declared.ArmError.TheVariants as E

none : (n : ℕ) (c : Call) → Tried n c []
none n c = record { tries = 0; aborts = 0; few = omega arith; once = omega arith; list = refl }

-- one try more
once_more : (n : ℕ) (c : Call) (calls : List Call) → Tried n c calls → Tried (suc n) c (c ∷ calls)
once_more n c calls h = record {
  tries = suc h.tries;
  aborts = h.aborts;
  few = omega (arith, h.few);
  once = h.once;
  list = ap (λ (l : List Call). c ∷ l) h.list;
}

aborted : (n : ℕ) (c : Call) (m : Memory) (e : ArmError) (answers : List Answer)
    → Tried n c (play (clear_sticky_errors m e (done m)) answers).calls
unfolding play
aborted n c m e [] = none n c
aborted n c m e (a ∷ rest) = record { tries = 0; aborts = 1; few = omega arith; once = omega arith; list = refl }

-- what follows one try
module _ (n : ℕ) (m : Memory) (c : Call) (ih : (answers : List Answer) → Tried n c (play (tries n m c (done m)) answers).calls) where
  after_ack_lem : (again : Bool) (ack : ℕ) (rest : List Answer) → Tried n c (play (after_ack again m (tries n m c (done m)) (done m) ack) rest).calls
  after_ack_lem true ack rest = ih rest
  after_ack_lem false ack rest = aborted n c m (E.Transfer ack) rest

  after_answer_lem : (a : Answer) (rest : List Answer) → Tried n c (play (after_answer m (tries n m c (done m)) (done m) a) rest).calls
  unfolding play
  after_answer_lem (Ok v) rest = none n c
  after_answer_lem (Err (SwdError ack)) rest = after_ack_lem (eqb ack 2) ack rest
  after_answer_lem (Err NotSupported) rest = aborted n c m E.NotSupported rest
  after_answer_lem (Err Other) rest = aborted n c m E.Internal rest

-- one transfer with nothing after it: at most 65 times the same call, then at most one ABORT
pub transfer_calls : (m : Memory) (request word : ℕ) (answers : List Answer)
    → Tried 65 (C.Transfer request word) (play (transfer m request word (done m)) answers).calls
unfolding transfer tries play
transfer_calls m request word answers = tries_calls 65 m (C.Transfer request word) answers
  where
    tries_calls : (n : ℕ) (m : Memory) (c : Call) (answers : List Answer) → Tried n c (play (tries n m c (done m)) answers).calls
    tries_calls zero m c answers = none 0 c
    tries_calls (suc n) m c [] = none (suc n) c
    tries_calls (suc n) m c (a ∷ rest) = once_more n c _ (after_answer_lem n m c (tries_calls n m c) a rest)
