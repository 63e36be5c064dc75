use Rattle.std.proofs.Common.{set, sym, ap, ◌∙◌}
use Rattle.store.specs.CellRules.{ended_cell}
use Rattle.store.specs.States.{state_of}
use Rattle.store.specs.Steps.{with_cells}
use Rattle.store.proofs.Altering.{alter-set, alter_past}
use Rattle.store.proofs.ChangeWays.{found_cell, no_cell}
use Rattle.store.proofs.stores.Table.end_cell.Goals as goal

pub returns-in-Ok : goal.returns-in-Ok
returns-in-Ok g c =
    let t = state_of c.args.self.now in
    let altered = alter-set (ended_cell g.R.Rules.method c.args.end t.clock c.args.seat c.args.began) t.cells c.args.line _ (found_cell _ _ _ c.in-Ok.ensures) in
    c.put_cell.ensures ∙ ap (λ x. with_cells (set t.cells c.args.line x) t) c.ended-cell.ensures ∙ ap (λ cells. with_cells cells t) (sym altered)

pub returns-in_default : goal.returns-in_default
returns-in_default g c =
    let t = state_of c.args.self.now in
    let none = no_cell _ _ _ (sym c.in_default.is ∙ c.cell_at.ensures) in
    ap (λ cells. with_cells cells t) (sym (alter_past (ended_cell g.R.Rules.method c.args.end t.clock c.args.seat c.args.began) t.cells c.args.line none.0))
