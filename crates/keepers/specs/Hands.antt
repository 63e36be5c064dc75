-- What the seats of the code mean.
--
--   hand_of o    what a seat holds, if it is open
--   hands s      the sixteen seats
use Rattle.std.specs.Prelude.{List, map, Some, None, Option}
use Rattle.records.specs.Commands.{changes_of}
use Rattle.keepers.specs.declared.seats.Open.{Open}
use Rattle.keepers.specs.declared.seats.Seats.{Seats}
use Rattle.keepers.specs.Meanings.{Hand}

abbrev pub hand_of : Option Open → Option Hand
hand_of None = None
hand_of (Some o) = Some (record { began = o.began; changes = changes_of o.command })

abbrev pub hands : Seats → List (Option Hand)
hands s = map hand_of s.each
