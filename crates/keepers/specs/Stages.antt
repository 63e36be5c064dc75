-- The five stages: Rest, Called, Pointed, Taking, Closing, and round to Rest again.
--
--   number g        0 to 4, in that order
--   same g h        whether two stages are one
--   onward g        where a turn leads
--   stepped s g     the stage after a call or a turn in stage g; or why it is refused
--   settled x r     what stands after an attempt r: the new value, or where it was refused the old x
--   verdict r       an attempt without its value: accepted, or why not
--   awaited g b     whether a turn in stage g waits for a seat that began in stage b
--   allowed q g b   whether a seat that began in stage b can still be open in stage g; q: the keeper is quiet
use Rattle.std.specs.Prelude.{ℕ, Bool, false, cond, not, ◌&&◌, ◌||◌, Ok, Err, Result, ◌==◌}
use Rattle.keepers.specs.declared.faults.KeeperFault.{KeeperFault}
use Rattle.keepers.specs.declared.faults.KeeperFault.TheVariants.{NotAtRest, AtRest}
use Rattle.keepers.specs.declared.stages.Stage.{Stage}
use Rattle.keepers.specs.declared.stages.Stage.TheVariants.{Rest, Called, Pointed, Taking, Closing}
use Rattle.keepers.specs.declared.stages.Step.{Step}
use Rattle.keepers.specs.declared.stages.Step.TheVariants.{Call, Turn}

abbrev pub number : Stage → ℕ
number Rest = 0
number Called = 1
number Pointed = 2
number Taking = 3
number Closing = 4

abbrev pub same : Stage → Stage → Bool
same g h = number g == number h

abbrev pub onward : Stage → Stage
onward Rest = Called
onward Called = Pointed
onward Pointed = Taking
onward Taking = Closing
onward Closing = Rest

abbrev pub stepped : Step → Stage → Result Stage KeeperFault
stepped Call g = cond (same g Rest) (Ok Called) (Err (NotAtRest g))
stepped Turn g = cond (same g Rest) (Err AtRest) (Ok (onward g))

abbrev pub settled : {S : Type 0} → S → Result S KeeperFault → S
settled old (Ok new) = new
settled old (Err fault) = old

abbrev pub verdict : {S : Type 0} → Result S KeeperFault → Result (Unit {0}) KeeperFault
verdict (Ok new) = Ok tt
verdict (Err fault) = Err fault

abbrev pub awaited : Stage → Stage → Bool
awaited Rest b = false
awaited Called b = not (same b Called)
awaited Pointed b = same b Called
awaited Taking b = false
awaited Closing b = same b Pointed || same b Taking

-- A turn lets none pass that it waits for; begin adds the stage itself, in Called only where the keeper is not quiet.
abbrev pub allowed : Bool → Stage → Stage → Bool
allowed quiet Rest b = same b Closing || same b Rest
allowed quiet Called b = same b Closing || (same b Rest || (same b Called && not quiet))
allowed quiet Pointed b = same b Pointed || (same b Called && not quiet)
allowed quiet Taking b = same b Pointed || same b Taking
allowed quiet Closing b = same b Pointed || (same b Taking || same b Closing)
