-- At step 0 the outcome is the call's. Else the group that `step` has by 1024 ensures what follows, and its own numbers, with the
-- group in them, mean the same.
use Prim.Native.Nat.{ℕ}
use mathlib.Core.Path.{ap, sym, ◌∙◌}
use Rattle.wire.specs.Laws.Rows.{past_rows}
use Rattle.engine_calls.specs.Laws.After.{groups, by_group, handed, memory_in_lem, connect_in, core_in, fpb_in, nrf_in}
use Rattle.call_memory.specs.Laws.After.{memory_after}
use Rattle.call_connect.specs.Laws.After.{connect_after}
use Rattle.call_core.specs.Laws.After.{core_after}
use Rattle.call_fpb.specs.Laws.After.{fpb_after}
use Rattle.call_nrf.specs.Laws.After.{nrf_after}
use Rattle.engine_calls.proofs.call_after.Goals as goal

pub returns-in-0 : goal.returns-in-0
returns-in-0 c =
    let a = c.args in
    ap (λ (n : ℕ). by_group n a.at a.o) c.in-0.is
    ∙ (c.call_after.ensures ∙ handed 0 memory_after memory_in_lem c.call_after.result c.grouped.result c.grouped.ensures)

pub returns-in-1 : goal.returns-in-1
returns-in-1 c =
    let a = c.args in
    ap (λ (n : ℕ). by_group n a.at a.o) c.in-1.is
    ∙ (c.call_after-in-1.ensures ∙ handed 1 connect_after connect_in c.call_after-in-1.result c.grouped-in-1.result c.grouped-in-1.ensures)

pub returns-in-2 : goal.returns-in-2
returns-in-2 c =
    let a = c.args in
    ap (λ (n : ℕ). by_group n a.at a.o) c.in-2.is
    ∙ (c.call_after-in-2.ensures ∙ handed 2 core_after core_in c.call_after-in-2.result c.grouped-in-2.result c.grouped-in-2.ensures)

pub returns-in-3 : goal.returns-in-3
returns-in-3 c =
    let a = c.args in
    ap (λ (n : ℕ). by_group n a.at a.o) c.in-3.is
    ∙ (c.call_after-in-3.ensures ∙ handed 3 fpb_after fpb_in c.call_after-in-3.result c.grouped-in-3.result c.grouped-in-3.ensures)

pub returns-in_default : goal.returns-in_default
returns-in_default c =
    let a = c.args in
    sym (past_rows (groups a.at a.o) _ _ c.in_default.in_default-own.rest)
    ∙ (c.call_after-in_default.ensures ∙ handed 4 nrf_after nrf_in c.call_after-in_default.result c.grouped-in_default.result c.grouped-in_default.ensures)
