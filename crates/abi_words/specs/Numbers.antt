-- What comes next, in the numbers of another language (include/bazkondur.h: bazkondur_next): the letter of the transport call to make, or 0
-- where the call has ended; the result; a word, which is the value at the end; how many transport calls were made; request, bits, bytes,
-- the pins' levels and which of them are driven.
use Rattle.std.specs.Prelude.{ℕ, List, [], ◌∷◌}
use Rattle.wire_numbers.specs.declared.TransportCall.{TransportCall}
use Rattle.engine.specs.declared.NextStep.{NextStep}
use Rattle.wire_numbers.specs.declared.CallEnding.{CallEnding}
use Rattle.session.specs.declared.SessionEnding.{SessionEnding}
use Rattle.engine.specs.declared.NextStep.TheVariants as N

abbrev pub due_numbers : TransportCall → List ℕ
due_numbers c = c.kind ∷ 0 ∷ c.word ∷ 0 ∷ c.request ∷ c.bits ∷ c.len ∷ c.output ∷ c.select ∷ []

abbrev pub end_numbers : (number value made : ℕ) → List ℕ
end_numbers number value made = 0 ∷ number ∷ value ∷ made ∷ 0 ∷ 0 ∷ 0 ∷ 0 ∷ 0 ∷ []

-- the engine by itself counts no transport calls
abbrev pub step_numbers : NextStep CallEnding → List ℕ
step_numbers (N.Make c) = due_numbers c
step_numbers (N.Finish e) = end_numbers e.number e.value 0

abbrev pub next_numbers : NextStep SessionEnding → List ℕ
next_numbers (N.Make c) = due_numbers c
next_numbers (N.Finish e) = end_numbers e.number e.value e.made
