-- Each phase is a row of the table, which names what follows its transfer.
use Prim.Native.Nat.{ℕ}
use mathlib.Core.Path.{ap, ◌∙◌}
use native.Mathlib.Omega.{arith}
use lib.ListN.{set, get_or}
use Rattle.wire_memap.specs.Laws.Flight.{goes_as, goes_of, direct_on, empty, ended_value, ended_selects, value_pulls, value_first, first_phase}
use Rattle.wire_step.proofs.move_on.Goals as goal

pub returns-then-phase-ge-SELECTING : goal.returns-then-phase-ge-SELECTING
returns-then-phase-ge-SELECTING c =
    λ h f. let a = c.args in ended_selects a.t.now a.m.now a.v a.row.now c.if-phase-ge-SELECTING.true c.selected.ensures f

pub returns-in-3 : goal.returns-in-3
returns-in-3 c =
    λ h f. let a = c.args in goes_as (ended_value a.m.now a.row.now a.v c.if-phase-ge-SELECTING.false)
    (goes_of (value_pulls a.m.now a.row.now a.v _ c.in-3.is
    (c.put.ensures ∙ ap (λ (i : ℕ). set a.row.now i a.v) c.saturating_sub.ensures) c.saturating_sub-in-3.ensures) (c.pull_on.ensures _ f))

pub returns-in-5 : goal.returns-in-5
returns-in-5 c =
    λ h f. let a = c.args in goes_as (ended_value a.m.now a.row.now a.v c.if-phase-ge-SELECTING.false)
    (goes_of (λ b k. simp c.in-5.is) (direct_on 0 14 0 a.t.now a.m.now _ (omega arith) c.direct.ensures f))

pub returns-in-6 : goal.returns-in-6
returns-in-6 c =
    λ h f. let a = c.args in goes_as (ended_value a.m.now a.row.now a.v c.if-phase-ge-SELECTING.false)
    (goes_of (λ b k. simp c.in-6.is) (c.tar_on.ensures _ f))

pub returns-in-8 : goal.returns-in-8
returns-in-8 c =
    λ h f. let a = c.args in goes_as (ended_value a.m.now a.row.now a.v c.if-phase-ge-SELECTING.false)
    (goes_of (λ b k. simp c.in-8.is) (direct_on 1 14 0 a.t.now a.m.now _ (omega arith) c.direct-in-8.ensures f))

pub returns-in_default : goal.returns-in_default
returns-in_default c =
    λ h f. let a = c.args in goes_as (ended_value a.m.now a.row.now a.v c.if-phase-ge-SELECTING.false)
    (goes_of (value_first a.m.now a.row.now a.v _ (first_phase (get_or a.m.now 0 0) (empty a.m.now) h c.in_default.in_default-own.rest) c.saturating_sub-in_default.ensures) (c.pull_on-in_default.ensures _ f))
