use Rattle.std.proofs.Common.{◌≡◌, ◌-◌, ◌≤◌, length, drop}
use Rattle.images.specs.Reading.{counted, lines_from}
use Rattle.images.proofs.Walk.{continued}
use Rattle.images.proofs.reader.count_lines.Given as goal

-- the lines from here on, with those before, are all the lines
abbrev pub invariant-loop-line : goal.invariant-loop-line
invariant-loop-line g l =
    (l.offset ≤ length l.bytes)
    × (l.count ≤ l.low)
    × (l.low ≤ l.head.n)
    × (continued l.count (lines_from g.C.Coded.coding l.head (l.head.n - l.count) l.low l.count l.offset (drop l.offset l.bytes))
    ≡ counted (lines_from g.C.Coded.coding l.head l.head.n 0 0 l.start (drop l.start l.bytes)))

abbrev pub decreases-loop-line : goal.decreases-loop-line
decreases-loop-line g l = length l.bytes - l.offset
