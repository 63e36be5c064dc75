-- What giving out comes to in Taking.
use Rattle.std.proofs.Common.{◌≡◌, ◌+◌, true, set, Some}
use Rattle.std.specs.List.{slice_get}
use Rattle.keepers.specs.declared.given.Given.{Given}
use Rattle.keepers.specs.declared.stages.Stage.TheVariants.{Taking}
use Rattle.keepers.specs.Methods.{Method}
use Rattle.keepers.specs.Stages.{same}
use Rattle.store.specs.declared.cells.Cell.{Cell}
use Rattle.store.specs.CellRules.{given_cell}
use Rattle.store.specs.States.{State}
use Rattle.store.specs.Steps.{given_out}
use Rattle.store.proofs.Altering.{alter-set}

module _ {L O : Type 0} (m : Method L O) (t : State L O) (taking : true ≡ same t.clock.stage Taking) where
  pub next_line : (x : Cell L O) → slice_get t.cells t.given ≡ Some x → (d : Given L) → d ≡ m.gives t.clock x.own → (y : Cell L O) → y ≡ given_cell m t.clock x
      → given_out m t ≡ (Some d, record { cells = set t.cells t.given y; seats = t.seats; clock = t.clock; given = t.given + 1 })
  next_line x there d is_d y is_y =
      let cells = alter-set (given_cell m t.clock) t.cells t.given x there in
      rw (← taking, there, cells, is_d, is_y)
