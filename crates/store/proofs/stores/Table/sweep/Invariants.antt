use Rattle.std.proofs.Common.{◌≡◌, ◌++◌, map, take, drop}
use Rattle.store.specs.CellRules.{pointed_cell}
use Rattle.store.proofs.stores.Table.sweep.Given as goal

-- the cells before the index are at the point, the others as they were
abbrev pub invariant-loop-cell : goal.invariant-loop-cell
invariant-loop-cell g l =
    let cells = l.initial.cell-items in
    l.cell-items ≡ map (pointed_cell g.R.Rules.method) (take l.cell-index cells) ++ drop l.cell-index cells
