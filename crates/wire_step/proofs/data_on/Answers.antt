-- The kind makes the definition compute to its first access, which `access` begins.
use Prim.Native.Nat.{ℕ, ◌-◌}
use mathlib.Core.Path.{ap, ◌∙◌}
use native.Mathlib.Omega.{arith}
use lib.ListN.{get_or}
use Rattle.wire_memap.specs.Laws.Flight.{accesses, begins_of, data_reads, data_writes}
use Rattle.wire_step.proofs.data_on.Goals as goal

pub returns-in-0 : goal.returns-in-0
returns-in-0 c =
    λ h f. begins_of (λ b k. simp c.in-0.is) (accesses c.access.ensures (omega arith) f _)

pub returns-in-1 : goal.returns-in-1
returns-in-1 c =
    λ h f. begins_of (λ b k. simp c.in-1.is) (accesses c.access-in-1.ensures (omega arith) f _)

pub returns-in-2 : goal.returns-in-2
returns-in-2 c =
    λ h f. let a = c.args in
    begins_of (data_reads a.m.now a.row.now c.in-2.is h) (accesses c.access-in-2.ensures (omega arith) f _)

pub returns-in_default : goal.returns-in_default
returns-in_default c =
    λ h f. let a = c.args in
    begins_of (data_writes a.m.now a.row.now _ c.in_default.in_default-own.rest
    (c.get_or-word.ensures ∙ ap (λ (i : ℕ). get_or a.row.now i 0) (c.saturating_sub-place.ensures
    ∙ ap (λ (i : ℕ). get_or a.m.now 2 0 - i) c.saturating_sub.ensures)))
    (accesses c.access-in_default.ensures (omega arith) f _)
