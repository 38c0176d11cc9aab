-- Text that is put into the lines of a listing piece by piece. Serves the proofs.
use Rattle.std.specs.Prelude.{ℕ, ◌≡◌, refl, List, [], ◌++◌}
use Rattle.std.proofs.Common.{◌∙◌, arith}
use Rattle.script_lines.specs.declared.Lines.{Lines}
use Rattle.script_lines.specs.Laws.Puts.{Puts, puts_then}

-- b is a with the text t put: over the same bytes, with t behind what stood there
pub record Adds (a : Lines) (t : List ℕ) (b : Lines) : Type 0 where
  pub same : b.out.ghost_name ≡ a.out.ghost_name
  pub puts : Puts a.out.now a.at t b.out.now b.at

pub adds_none : {a : Lines} → Adds a [] a
adds_none = record { same = refl; puts = record { place = omega arith; text = refl } }

-- a text and then another
pub adds_then : {a b c : Lines} {t u : List ℕ} → Adds a t b → Adds b u c → Adds a (t ++ u) c
adds_then p q = record { same = q.same ∙ p.same; puts = puts_then p.puts q.puts }
