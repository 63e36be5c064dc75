use Rattle.std.proofs.Common.{not, ◌∙◌, rules}
use Rattle.std.proofs.lemmas.Iterator.{YieldsList-from_slice}
use Rattle.std.proofs.lemmas.Iterator.Search.{position_from_yields_List}
use Rattle.lines.proofs.Fronts.{front_found}
use Rattle.lines.proofs.numbered.lawful_front.Goals as goal

pub returns : goal.returns
returns g c =
    let keeps = g.L.Coded.coding.keeps in
    let ls = c.args.lines.now in
    let found = position_from_yields_List (λ x. not (keeps x)) _ _ _ c.position.ensures.ran (YieldsList-from_slice ls cc) (λ x b q k. search rules) in
    c.unwrap_or.ensures ∙ front_found keeps ls c.position.result found
