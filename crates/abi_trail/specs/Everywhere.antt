-- What holds of the memory wherever a call may stand: at each transport call, whatever was answered before, and at its end.
use Rattle.wire.specs.Wire.{Wire, Memory, done, ask, tell}
use Rattle.wire.specs.Outcomes.{Answer}

abbrev pub Everywhere : (Memory → Type 0) → Wire → Type 0
Everywhere P (done m o) = P m
Everywhere P (ask m c f) = P m × ((a : Answer) → Everywhere P (f a))
Everywhere P (tell m c w) = P m × Everywhere P w
