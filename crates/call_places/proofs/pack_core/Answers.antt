-- Each arm knows the phase, and the table of phases computes at its number.
use Rattle.call_places.proofs.pack_core.Goals as goal

pub returns-in-Run : goal.returns-in-Run
returns-in-Run c =
    simp (c.in-Run.is, c.at_step-in-Run.ensures, c.with_flag.ensures.0, c.with_flag.ensures.1, c.pack-in-Run.ensures.0)
