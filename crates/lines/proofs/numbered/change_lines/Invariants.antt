use Rattle.std.proofs.Common.{◌≡◌, drop}
use Rattle.lines.specs.Numbered.{after, verdicts}
use Rattle.lines.proofs.numbered.change_lines.Given as goal

-- what is left of the changes, made on the lines as they stand, gives what all of them give from the start
abbrev pub invariant-loop-change : goal.invariant-loop-change
invariant-loop-change g l =
    let f = g.L.Line.changed in
    (after f l.lines (drop l.change-index l.changes) ≡ after f l.initial.lines l.changes)
    × (verdicts f l.lines (drop l.change-index l.changes) ≡ verdicts f l.initial.lines l.changes)
