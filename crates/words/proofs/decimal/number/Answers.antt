use Rattle.std.proofs.Common.{sym, ◌∙◌, rules}
use Rattle.words.proofs.Values.{behind_none, decimal_is}
use Rattle.words.proofs.decimal.number.Goals as goal

pub returns-in_err-n : goal.returns-in_err-n
returns-in_err-n c =
    let w = c.args.word.now in
    let none = behind_none w c.loop-c.n c.loop-c.c-index c.loop-c-test.true c.in_err-n.ensures in
    rw c.from_residual.ensures (sym (decimal_is w (search rules) ∙ sym c.loop-c.invariant.1 ∙ none))
