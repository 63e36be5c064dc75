use Rattle.std.proofs.Common.{◌≡◌, true, false, ltb, length, set, sym, refl, ap, ◌∙◌, rules}
use Rattle.std.proofs.lemmas.Result.{err_from_is_err_and}
use Rattle.lines.specs.Numbered.{change}
use Rattle.records.specs.Commands.{changes_of}
use Rattle.keepers.specs.Hands.{hands}
use Rattle.store.specs.States.{state_of}
use Rattle.store.specs.Steps.{with_cells}
use Rattle.store.proofs.ChangeWays.{unseated, no_line, held, fifth, refused, accepted, found_cell}
use Rattle.store.proofs.stores.Table.change_line.Goals as goal

pub returns-in_err-open : goal.returns-in_err-open
returns-in_err-open g c =
    let t = state_of c.args.self.now in
    let fault = err_from_is_err_and c.from_residual.result c.from_residual.ensures.1 in
    let way = unseated g.R.Rules.method g.R.Line.Line.changed c.args.seat c.args.change t _ c.in_err-open.ensures in
    record { state = rw (fault.1, fault.2) way; same = rw fault.1 refl }

pub returns-in_err-cell : goal.returns-in_err-cell
returns-in_err-cell g c =
    let t = state_of c.args.self.now in
    let seated = c.in_ok-open.ensures in
    let fault = err_from_is_err_and c.from_residual-in_err-cell.result c.from_residual-in_err-cell.ensures.1 in
    let way = no_line g.R.Rules.method g.R.Line.Line.changed c.args.seat c.args.change t _ seated.0 seated.1 _ c.in_err-cell.ensures in
    record { state = rw (fault.1, fault.2) way; same = rw fault.1 refl }

pub returns-then-is_held_elsewhere : goal.returns-then-is_held_elsewhere
returns-then-is_held_elsewhere g c =
    let t = state_of c.args.self.now in
    let seated = c.in_ok-open.ensures in
    let there = found_cell _ _ _ c.in_ok-cell.ensures in
    record {
      state = held g.R.Rules.method g.R.Line.Line.changed c.args.seat c.args.change t _ seated.0 seated.1 _ there (sym c.if-is_held_elsewhere.ensures);
      same = refl;
    }

pub returns-then-is_err : goal.returns-then-is_err
returns-then-is_err g c =
    let t = state_of c.args.self.now in
    let seated = c.in_ok-open.ensures in
    let room : ltb (length (changes_of c.in_ok-open.open.command)) 4 ≡ false = search rules in
    let there = found_cell _ _ _ c.in_ok-cell.ensures in
    record {
      state = fifth g.R.Rules.method g.R.Line.Line.changed c.args.seat c.args.change t _ seated.0 seated.1 _ there (sym c.if-is_held_elsewhere.ensures)
          room;
      same = refl;
    }

pub returns-in_err-line : goal.returns-in_err-line
returns-in_err-line g c =
    let t = state_of c.args.self.now in
    let seated = c.in_ok-open.ensures in
    let room : ltb (length (changes_of c.in_ok-open.open.command)) 4 ≡ true = search rules in
    let there = found_cell _ _ _ c.in_ok-cell.ensures in
    let fault = err_from_is_err_and c.from_residual-in_err-line.result c.from_residual-in_err-line.ensures.1 in
    let answer = ap (λ x. change g.R.Line.Line.changed x c.args.change) (sym c.live.ensures) ∙ sym c.in_err-line.ensures in
    let way = refused g.R.Rules.method g.R.Line.Line.changed c.args.seat c.args.change t _ seated.0 seated.1 _ there (sym c.if-is_held_elsewhere.ensures)
    room _ answer in
    record { state = rw (fault.1, fault.2) way; same = rw fault.1 refl }

pub returns : goal.returns
returns g c =
    let t = state_of c.args.self.now in
    let seated = c.in_ok-open.ensures in
    let room : ltb (length (changes_of c.in_ok-open.open.command)) 4 ≡ true = search rules in
    let there = found_cell _ _ _ c.in_ok-cell.ensures in
    let answer = ap (λ x. change g.R.Line.Line.changed x c.args.change) (sym c.live.ensures) ∙ sym c.in_ok-line.ensures in
    record {
      state = accepted g.R.Rules.method g.R.Line.Line.changed c.args.seat c.args.change t _ seated.0 seated.1 _ there (sym c.if-is_held_elsewhere.ensures)
          room _ answer (state_of c.put_cell.new.self) (hands c.put.new.self) _
          (c.put_cell.ensures ∙ ap (λ x. with_cells (set t.cells c.args.change.line x) t) c.changed-cell.ensures) c.put.ensures c.push.ensures.after;
      same = tt;
    }
