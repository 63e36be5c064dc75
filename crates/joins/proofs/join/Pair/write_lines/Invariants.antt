use Rattle.std.proofs.Common.{◌+◌, ◌≤◌, length}
use Rattle.images.specs.Images.{lines_bytes}
use Rattle.joins.specs.Merging.{merged_left, WhereJoined}
use Rattle.joins.proofs.Laying.{SoFar}
use Rattle.joins.proofs.join.Pair.write_lines.Given as goal

-- what was written and the lines that are left are the lines of the join
abbrev pub invariant-loop-line : goal.invariant-loop-line
invariant-loop-line g l =
    let f = g.C.Coded.coding in
    (l.at ≤ length l.out)
    × WhereJoined f l.self (λ c. l.start + length (lines_bytes f c.lines) ≤ length l.initial.out
    → SoFar f c.lines (merged_left f l.line-iterator) l.initial.out l.start l.out l.at)
