use Rattle.std.proofs.Common.{◌≡◌, ◌∙◌}
use Rattle.joins.specs.Joining.{join}
use Rattle.joins.specs.Merging.{merged_left}
use Rattle.joins.proofs.Joined.{overlay_joined}
use Rattle.joins.proofs.Laying.{none_yet, one_more, one_none}
use Rattle.joins.proofs.join.Pair.write_lines.Goals as goal

pub loop-line-init : goal.loop-line-init
loop-line-init g c =
    let f = g.C.Coded.coding in (
      c.requires,
      λ a b ra rb fit room.
          let all : merged_left f c.into_iter-line-iterator.result ≡ (join a b).lines = rw c.into_iter-line-iterator.ensures.into_iter_gives (c.lines-line-items.ensures.lines a b ra rb ∙ overlay_joined f a b ra.lawful rb.lawful fit) in
          rw all (none_yet f (join a b).lines c.args.out.now c.args.start c.requires),
    )

pub returns-in_err-at-clause-put : goal.returns-in_err-at-clause-put
returns-in_err-at-clause-put g c a b ra rb fit room =
    absurd (one_none g.C.Coded.coding (join a b).lines c.args.out.now c.args.start c.requires room _ c.loop-line.out c.loop-line.at (c.loop-line.invariant.1 a b ra rb fit room) c.in-Some.line _ c.in-Some.ensures.steps _ c.in_err-at.ensures.put)

pub loop-line-preserved : goal.loop-line-preserved
loop-line-preserved g c = (
  c.in_ok-at.ensures.within,
  λ a b ra rb fit room.
      one_more g.C.Coded.coding (join a b).lines c.args.out.now c.args.start c.requires room _ c.loop-line.out c.loop-line.at (c.loop-line.invariant.1 a b ra rb fit room) c.in-Some.line _ c.in-Some.ensures.steps _ c.in_ok-at.at c.in_ok-at.ensures.put,
)
