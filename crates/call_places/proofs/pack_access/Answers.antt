-- Each arm knows what the access is for, and the table of phases computes at its number.
use Rattle.call_places.proofs.pack_access.Goals as goal

pub returns-in-End : goal.returns-in-End
returns-in-End c =
    simp (c.in-End.is, c.at_step.ensures, c.with_flag.ensures.0, c.pack-x.ensures.0)

pub returns-in-Save : goal.returns-in-Save
returns-in-Save c =
    let f = c.with_flag-in-Save.ensures in
    simp (c.in-Save.is, c.at_step-in-Save.ensures, f.0, f.1, c.pack-x.ensures.0)

pub returns-in-Set : goal.returns-in-Set
returns-in-Set c =
    let f = c.with_flag-in-Set.ensures in
    simp (c.in-Set.is, c.at_step-in-Set.ensures, f.0, f.1, c.pack-x.ensures.0)

pub returns-in-Result : goal.returns-in-Result
returns-in-Result c =
    simp (c.in-Result.is, c.at_step-in-Result.ensures, c.with_flag-in-Result.ensures.0, c.pack-x.ensures.0)

pub returns-in-Restore : goal.returns-in-Restore
returns-in-Restore c =
    simp (c.in-Restore.is, c.at_step-in-Restore.ensures, c.with_flag-in-Restore.ensures.0, c.pack-x.ensures.0)
