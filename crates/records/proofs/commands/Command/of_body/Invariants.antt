use Rattle.std.proofs.Common.{◌≡◌}
use Rattle.records.specs.Changes.{changes_in}
use Rattle.records.specs.Commands.{changes_of}
use Rattle.records.proofs.commands.Command.of_body.Given as goal

-- the changes so far
abbrev pub invariant-loop-slot : goal.invariant-loop-slot
invariant-loop-slot l = changes_of l.command ≡ changes_in l.slot-index l.bytes
