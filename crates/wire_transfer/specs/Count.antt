-- The count of tries (02, e): what is claimed of the count that a transport call in flight holds, and of the calls of one transfer.
use Rattle.std.specs.Prelude.{ℕ, ◌≤◌, List, ◌++◌, ◌≡◌, get_or, replicate}
use Rattle.wire.specs.declared.Call.{Call}
use Rattle.wire.specs.declared.Call.TheVariants as C

-- the count that its words hold, of the times that it was made, is at most 65
abbrev pub Counted : List ℕ → Type 0
Counted t = get_or t 1 0 ≤ 65

-- at most n times the call c, and then at most one ABORT
pub record Tried (n : ℕ) (c : Call) (calls : List Call) : Type 0 where
  pub tries : ℕ
  pub aborts : ℕ
  pub few : tries ≤ n
  pub once : aborts ≤ 1
  pub list : calls ≡ replicate tries c ++ replicate aborts (C.Transfer 0 0x1E)
