-- Each arm is the contract of its group, whose numbers, with the group in them, mean the same.
use mathlib.Core.Path.{◌∙◌}
use Rattle.engine_calls.specs.Laws.After.{handed, memory_in_lem, connect_in, core_in, fpb_in, nrf_in}
use Rattle.call_memory.specs.Laws.After.{memory_after}
use Rattle.call_connect.specs.Laws.After.{connect_after}
use Rattle.call_core.specs.Laws.After.{core_after}
use Rattle.call_fpb.specs.Laws.After.{fpb_after}
use Rattle.call_nrf.specs.Laws.After.{nrf_after}
use Rattle.engine_calls.proofs.call_start.Goals as goal

pub returns-in-Connect : goal.returns-in-Connect
returns-in-Connect c =
    simp c.in-Connect.is (c.start.ensures ∙ handed 1 connect_after connect_in c.start.result c.grouped.result c.grouped.ensures)

pub returns-in-Memory : goal.returns-in-Memory
returns-in-Memory c =
    simp c.in-Memory.is (c.start-in-Memory.ensures ∙ handed 0 memory_after memory_in_lem c.start-in-Memory.result c.grouped-in-Memory.result c.grouped-in-Memory.ensures)

pub returns-in-Core : goal.returns-in-Core
returns-in-Core c =
    simp c.in-Core.is (c.start-in-Core.ensures ∙ handed 2 core_after core_in c.start-in-Core.result c.grouped-in-Core.result c.grouped-in-Core.ensures)

pub returns-in-Fpb : goal.returns-in-Fpb
returns-in-Fpb c =
    simp c.in-Fpb.is (c.start-in-Fpb.ensures ∙ handed 3 fpb_after fpb_in c.start-in-Fpb.result c.grouped-in-Fpb.result c.grouped-in-Fpb.ensures)

pub returns-in-Nrf : goal.returns-in-Nrf
returns-in-Nrf c =
    simp c.in-Nrf.is (c.start-in-Nrf.ensures ∙ handed 4 nrf_after nrf_in c.start-in-Nrf.result c.grouped-in-Nrf.result c.grouped-in-Nrf.ensures)
