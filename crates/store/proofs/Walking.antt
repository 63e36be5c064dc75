-- The walk over a command's lines, so far as it has come.
use Rattle.std.proofs.Common.{ℕ, List}
use Rattle.lines.specs.declared.changes.Change.{Change}
use Rattle.keepers.specs.declared.stages.Stage.{Stage}
use Rattle.keepers.specs.Methods.{Method}
use Rattle.store.specs.declared.cells.End.{End}
use Rattle.store.specs.CellRules.{ended_cell, walk}
use Rattle.store.specs.States.{State}
use Rattle.store.specs.Steps.{with_cells}

module _ {L O : Type 0} (m : Method L O) (e : End) (s : ℕ) (b : Stage) (from : State L O) where
  -- the state t with the changes cs still to be walked over
  abbrev pub walked : List Change → State L O → State L O
  walked cs t = with_cells (walk (ended_cell m e from.clock s b) cs t.cells) t
