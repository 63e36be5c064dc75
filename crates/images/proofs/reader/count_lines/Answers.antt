use Rattle.std.proofs.Common.{sym, ◌∙◌, arith}
use Rattle.std.proofs.lemmas.Result.{err_from_is_err_and}
use Rattle.images.proofs.Walk.{turn_bounds, step_on, step_off, step_end}
use Rattle.images.proofs.reader.count_lines.Goals as goal

pub returns-then-not-in_turn : goal.returns-then-not-in_turn
returns-then-not-in_turn g c =
    step_off g.C.Coded.coding c.args.head c.args.bytes.now c.loop-line.low c.loop-line.count c.loop-line.offset c.in-Some.line c.in-Some.len c.in-Some.ensures.answer (sym c.if-not-in_turn.ensures)
    ∙ c.loop-line.invariant.3

pub loop-line-preserved : goal.loop-line-preserved
loop-line-preserved g c =
    let t = sym c.if-not-in_turn.ensures in
    let b = turn_bounds c.args.head c.loop-line.low c.in-Some.line.number t in
    let s = step_on g.C.Coded.coding c.args.head c.args.bytes.now c.loop-line.low c.loop-line.count c.loop-line.offset c.in-Some.line c.in-Some.len c.in-Some.ensures.answer t c.loop-line.invariant.1 c.loop-line.invariant.0 in
    (s.0, omega (arith, b.0, c.loop-line.invariant.1), omega (arith, b.1), s.1 ∙ c.loop-line.invariant.3)

pub returns-in_err-check_end : goal.returns-in_err-check_end
returns-in_err-check_end g c =
    let fault = err_from_is_err_and c.from_residual.result c.from_residual.ensures.1 in
    rw (fault.1, fault.2) (step_end g.C.Coded.coding c.args.head c.args.bytes.now c.loop-line.low c.loop-line.count c.loop-line.offset c.in_default.ensures.answer _ c.in_err-check_end.ensures
    ∙ c.loop-line.invariant.3)

pub returns : goal.returns
returns g c =
    step_end g.C.Coded.coding c.args.head c.args.bytes.now c.loop-line.low c.loop-line.count c.loop-line.offset c.in_default.ensures.answer _ c.in_ok-check_end.ensures
    ∙ c.loop-line.invariant.3
