-- What a store holds, and what it means.
--
--   State L O      its cells, one for each line; its seats; its clock; and how many lines are not due: all of them in Rest, Called and Closing
--   state_of t     the state of a table
--   state s        the state of a store: its table's
--   meaning m s    what a keeper with the rules m and the state s means
use Rattle.std.specs.Prelude.{ℕ, cond, ◌||◌, List, map, drop, Option}
use Rattle.keepers.specs.declared.clocks.Clock.{Clock}
use Rattle.keepers.specs.declared.stages.Stage.TheVariants.{Rest, Called}
use Rattle.keepers.specs.Hands.{hands}
use Rattle.keepers.specs.Meanings.{Hand, Meaning}
use Rattle.keepers.specs.Methods.{Method}
use Rattle.keepers.specs.Stages.{same}
use Rattle.store.specs.declared.cells.Cell.{Cell}
use Rattle.store.specs.declared.stores.Store.{Store}
use Rattle.store.specs.declared.stores.Table.{Table}
use Rattle.store.specs.CellRules.{committed_of, named_of, due_of}

pub record State (L O : Type 0) : Type 0 where
  pub cells : List (Cell L O)
  pub seats : List (Option Hand)
  pub clock : Clock
  pub given : ℕ

abbrev pub state_of : {L O : Type 0} → Table O L → State L O
state_of t = record { cells = t.cells.now; seats = hands t.seats; clock = t.clock; given = t.given }

abbrev pub state : {L O : Type 0} → Store O L → State L O
state s = state_of s.table

abbrev pub meaning : {L O : Type 0} → Method L O → State L O → Meaning L
meaning m s = record {
  lines = map (committed_of m) s.cells;
  seats = s.seats;
  stage = s.clock.stage;
  odd = s.clock.odd;
  named = map (named_of m s.clock) s.cells;
  given = cond (same s.clock.stage Rest || same s.clock.stage Called) 0 s.given;
  due = drop s.given (map (due_of m s.clock) s.cells);
}
