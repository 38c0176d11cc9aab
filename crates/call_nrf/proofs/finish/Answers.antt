-- The nRF54's buffer is written out before its flash is closed.
use Rattle.call_nrf.proofs.finish.Goals as goal

pub returns-in-Nrf54 : goal.returns-in-Nrf54
returns-in-Nrf54 c =
    simp c.in-Nrf54.is (simp c.in-Nrf54.is at c.doing.ensures.asked)
