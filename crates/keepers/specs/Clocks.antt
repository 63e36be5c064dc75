-- What all cells share.
--
--   start        the clock of a new keeper
--   ticked k     the clock one turn on: the point makes one point more, the end of a round turns the sense over
use Rattle.std.specs.Prelude.{false, cond, not}
use Rattle.keepers.specs.declared.clocks.Clock.{Clock}
use Rattle.keepers.specs.declared.stages.Stage.TheVariants.{Rest, Called, Closing}
use Rattle.keepers.specs.Stages.{same, onward}

abbrev pub start : Clock
start = record { stage = Rest; odd = false; sense = false }

abbrev pub ticked : Clock → Clock
ticked k = record {
  stage = onward k.stage;
  odd = cond (same k.stage Called) (not k.odd) k.odd;
  sense = cond (same k.stage Closing) (not k.sense) k.sense;
}
