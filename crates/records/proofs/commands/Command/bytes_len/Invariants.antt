use Rattle.std.proofs.Common.{◌≡◌, ◌*◌, true, take}
use Rattle.records.specs.Changes.{changes_fit}
use Rattle.records.specs.Commands.{changes_of}
use Rattle.records.proofs.commands.Command.bytes_len.Given as goal

-- seven bytes for each change so far, whose numbers fit
abbrev pub invariant-loop-change : goal.invariant-loop-change
invariant-loop-change l = (l.len ≡ 7 * l.change-index) × (changes_fit (take l.change-index (changes_of l.self)) ≡ true)
