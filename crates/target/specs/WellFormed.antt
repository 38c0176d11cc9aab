-- The targets that 01 and 02 speak of ("The model target"; 02, c): the size field of CSW is 2, 10 to 32 bits of TAR are incremented,
-- base and size of the memory are multiples of 4 and its end is at most 2^32. All else is arbitrary. A transport call keeps it
-- (`Laws/WellFormed.antt`).
use Rattle.std.specs.Prelude.{◌≡◌, List, ℕ, ◌+◌, ◌%◌, ◌≤◌, ◌<◌, length, get_or}
use Rattle.target.specs.declared.Target.{Target}

pub record WellFormed (t : Target) (m : List ℕ) : Type 0 where
  pub size : t.csw % 8 ≡ 2
  pub width : (10 ≤ t.width) × (t.width ≤ 32)
  pub start : t.base % 4 ≡ 0
  pub whole : length m % 4 ≡ 0
  pub end : t.base + length m ≤ 0x100000000
  pub bytes : (i : ℕ) → get_or m i 0 < 256
