-- What is given for a call: how many faults or answers there are, and how many transport calls they allow.
use Rattle.std.specs.Prelude.{ℕ, length, min}
use Rattle.list_records.specs.declared.Given.{Given}
use Rattle.list_records.specs.declared.Given.TheVariants.{Faults, Answers}

abbrev pub fault_count : Given → ℕ
fault_count (Faults entries) = length entries.now
fault_count (Answers entries) = 0

abbrev pub answer_count : Given → ℕ
answer_count (Faults entries) = 0
answer_count (Answers entries) = length entries.now

-- how many transport calls a call of a budget may make
abbrev pub allowed : Given → ℕ → ℕ
allowed (Faults entries) budget = budget
allowed (Answers entries) budget = min (length entries.now) budget
