use Rattle.std.proofs.Common.{◌≡◌, map, take}
use Rattle.store.specs.CellRules.{fresh_cell}
use Rattle.store.proofs.stores.opening.fill.Given as goal

abbrev pub invariant-loop-i : goal.invariant-loop-i
invariant-loop-i g l = take l.i l.cells ≡ map (fresh_cell g.R.Rules.method) (take l.i l.opening)
