use Rattle.std.proofs.Common.{◌≡◌, drop}
use Rattle.store.specs.States.{state_of}
use Rattle.store.proofs.Walking.{walked}
use Rattle.store.proofs.stores.Table.end_cells.Given as goal

-- what is left of the walk leads where the whole walk leads
abbrev pub invariant-loop-change : goal.invariant-loop-change
invariant-loop-change g l =
    let from = state_of l.initial.self in
    let left = walked g.R.Rules.method l.end l.seat l.began from in
    left (drop l.change-index l.change-items) (state_of l.self) ≡ left l.change-items from
