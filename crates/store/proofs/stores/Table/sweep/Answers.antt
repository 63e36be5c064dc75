use Rattle.std.proofs.Common.{arith}
use Rattle.std.proofs.lemmas.List.Edits.{map_over_more}
use Rattle.store.specs.CellRules.{pointed_cell}
use Rattle.store.proofs.stores.Table.sweep.Goals as goal

pub loop-cell-preserved : goal.loop-cell-preserved
loop-cell-preserved g c = grind (arith, map_over_more (pointed_cell g.R.Rules.method))
