-- What a caller is told of a keeper's refusal.
--
--   refusal f    what is told of the fault f; a line's own is told as the line tells it
use Rattle.lines.specs.declared.faults.Layer.TheVariants.{Book, Keeper}
use Rattle.lines.specs.declared.faults.Refusal.{Refusal}
use Rattle.lines.specs.Faults.{told}
use Rattle.lines.specs.Faults as lines
use Rattle.keepers.specs.declared.faults.KeeperFault.{KeeperFault}
use Rattle.keepers.specs.declared.faults.KeeperFault.TheVariants.{NoSuchSeat, SeatOpen, SeatNotOpen, Held, FifthChange, Quiet, NotAtRest, WaitsForSeat, WaitsForLines, AtRest, Line}
use Rattle.keepers.specs.Stages.{number}

abbrev pub refusal : KeeperFault → Refusal
refusal (NoSuchSeat seat) = told 1 Book seat
refusal (SeatOpen seat) = told 20 Keeper seat
refusal (SeatNotOpen seat) = told 21 Keeper seat
refusal (Held line) = told 22 Keeper line
refusal (FifthChange seat) = told 23 Keeper seat
refusal (Quiet seat) = told 25 Keeper seat
refusal (NotAtRest stage) = told 27 Book (number stage)
refusal (WaitsForSeat seat) = told 28 Keeper seat
refusal (WaitsForLines lines) = told 28 Keeper lines
refusal AtRest = told 29 Book 0
refusal (Line fault) = lines.refusal fault
