use Rattle.std.proofs.Common.{◌≡◌, true, Some, rules}
use Rattle.std.specs.List.{slice_get}
use Rattle.keepers.specs.Stages.{same}
use Rattle.keepers.specs.declared.stages.Stage.TheVariants.{Taking}
use Rattle.store.specs.States.{state_of}
use Rattle.store.proofs.GiveWays.{next_line}
use Rattle.store.proofs.stores.Table.give_out.Goals as goal

pub returns-clause-state : goal.returns-clause-state
returns-clause-state g c =
    let t = state_of c.args.self.now in
    let taking : true ≡ same t.clock.stage Taking = search rules in
    let there : slice_get t.cells t.given ≡ Some c.in_ok-cell.cell = search rules in
    next_line g.R.Rules.method t taking _ there _ c.gives-given.ensures _ c.given.ensures
