use Rattle.std.proofs.Common.{◌≡◌, ap, sym, ◌∙◌, rules}
use Rattle.std.specs.Cmp.Lexicographic.{pointwise}
use Rattle.records.specs.Changes.{same_change}
use Rattle.records.proofs.CommandValues.{same_slots}
use Rattle.records.proofs.SameChanges.{changes_decide}
use Rattle.records.proofs.commands.CommandPartialEq.eq.Goals as goal

pub returns-then-self-other-clause-decides : goal.returns-then-self-other-clause-decides
returns-then-self-other-clause-decides c =
    let x = c.args.self.now in
    let y = c.args.other.now in
    let value : c.eq.result ≡ pointwise same_change x.changes y.changes = search rules in
    let test = changes_decide x.changes y.changes in
    ((λ t. same_slots x y (test.0 (sym value ∙ t)) c.if-self-other.true), λ e. value ∙ test.1 (ap (λ z. z.changes) e))
