use Rattle.std.proofs.Common.{rules}
use Rattle.std.proofs.lemmas.List.{map-set}
use Rattle.keepers.proofs.seats.Seats.put.Goals as goal

pub returns-then-s-lt-SEATS : goal.returns-then-s-lt-SEATS
returns-then-s-lt-SEATS c = search (rules, map-set)
