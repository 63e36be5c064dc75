use Rattle.std.proofs.Common.{length, ap, arith}
use Rattle.images.specs.Walks.{lines_left}
use Rattle.images.proofs.Walks.{lines_few}
use Rattle.joins.proofs.Merge.{overlay_few}
use Rattle.joins.proofs.join.Pair.lines.Goals as goal

pub returns-clause-few : goal.returns-clause-few
returns-clause-few g c =
    let f = g.C.Coded.coding in
    let a = c.args.self.earlier in
    let b = c.args.self.later in
    let all = overlay_few (lines_left f c.lines.result) (lines_left f c.lines-2.result) in
    let old = ap length c.lines.ensures.answer in
    let new = ap length c.lines-2.ensures.answer in
    omega (arith, lines_few f a.bytes.now a.count a.count 0, lines_few f b.bytes.now b.count b.count 0)
