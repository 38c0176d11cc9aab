-- How a call stands, by its nine words: under way or ended, over whose words it runs, and what the tree of an ended one is.
use Rattle.std.specs.Prelude.{ℕ, ◌%◌, Bool, true, false, List, eqb, ltb, get_or}
use Rattle.wire_transfer.specs.Count.{Counted}
use Rattle.wire.specs.Laws.Told.{outcome_of}
use Rattle.wire.specs.Wire.{Wire, Memory, done}
use Rattle.wire.specs.Outcomes.{Outcome}

-- whether a call is under way, or how it ended
pub data Status : Type 0 where
  Running : Status
  Ended : Outcome → Status

abbrev pub status_as : Bool → Outcome → Status
status_as true o = Running
status_as false o = Ended o

-- The word at 6: 0 and 1 under way, 2 and more ended, with the outcome that the next two words tell.
abbrev pub running : List ℕ → Bool
running c = ltb (get_or c 6 0) 2

abbrev pub status_of : List ℕ → Status
status_of c = status_as (running c) (outcome_of (get_or c 7 0) (get_or c 8 0))

-- whether it runs over the caller's own words: where that number is odd
abbrev pub own_of : List ℕ → Bool
own_of c = eqb (get_or c 6 0 % 2) 1

-- a call that has ended stands for that end, over what stands by then
abbrev pub status_tree : Status → Wire → Memory → Wire
status_tree Running flight m = flight
status_tree (Ended o) flight m = done m o

-- The transport call in flight holds a count of at most 65 (02, e); of a call that has ended nothing is in flight.
abbrev pub CountedIn : Status → List ℕ → Type 0
CountedIn Running t = Counted t
CountedIn (Ended o) t = Unit {0}
