use Rattle.std.proofs.Common.{length, refl, ap, ◌∙◌}
use Rattle.std.proofs.lemmas.Iterator.Consumers.{YieldsList-from_first, count_from_yields_List}
use Rattle.joins.specs.Merging.{merged_left}
use Rattle.joins.proofs.Joined.{overlay_joined}
use Rattle.joins.proofs.join.Pair.count.Goals as goal

pub returns-clause-lines : goal.returns-clause-lines
returns-clause-lines g c a b ra rb fit =
    let f = g.C.Coded.coding in
    count_from_yields_List c.lines.result c.count.result c.count.ensures.ran (YieldsList-from_first (λ x. x) (merged_left f) (merged_left f c.lines.result) refl)
    ∙ ap length (c.lines.ensures.lines a b ra rb ∙ overlay_joined f a b ra.lawful rb.lawful fit)
