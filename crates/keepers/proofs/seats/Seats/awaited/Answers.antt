use Rattle.std.proofs.Common.{rules, sym, ◌∙◌}
use Rattle.std.proofs.lemmas.Iterator.{YieldsList-from_slice}
use Rattle.std.proofs.lemmas.Iterator.Search.{position_from_yields_List}
use Rattle.keepers.specs.Calls.{awaits}
use Rattle.keepers.specs.Hands.{hand_of}
use Rattle.keepers.proofs.Lowest.{lowest-map}
use Rattle.keepers.proofs.seats.Seats.awaited.Goals as goal

pub returns : goal.returns
returns c =
    position_from_yields_List (λ seat. awaits c.args.stage (hand_of seat)) _ _ c.position.result c.position.ensures.ran (YieldsList-from_slice _ c.iter.ensures.rest) (λ x b q called. search rules)
    ∙ sym (lowest-map (awaits c.args.stage) hand_of c.args.self.now.each)
