use Rattle.std.proofs.Common.{◌≡◌, ◌-◌, ◌*◌, take, arith}
use Rattle.std.proofs.lemmas.List.Folds.{flat_map-map}
use Rattle.records.specs.Changes.{change_bytes, changes_bytes}
use Rattle.records.specs.Commands.{changes_of}
use Rattle.records.proofs.ChangeBytes.{command_front}
use Rattle.records.proofs.CommandValues.{length-changes}
use Rattle.records.proofs.entries.CommandRecordRecord.write_body.Goals as goal

pub returns : goal.returns
returns c =
    let command = c.args.command.now in
    let long : 7 * c.len.result - 0 ≡ 7 * command.len = omega (arith, c.len.ensures, length-changes command) in
    let flat : c.as_flattened.result.now ≡ changes_bytes command.changes = rw (c.as_flattened.ensures.value, c.slots-slots.ensures) (flat_map-map (λ x. x) change_bytes command.changes) in
    let body : take (7 * c.len.result - 0) c.as_flattened.result.now ≡ changes_bytes (changes_of command) =
    rw (flat, long) (command_front command.len command.changes (omega (arith, command.four, command.short))) in
    record { answer = rw body at c.write_front.ensures.answer; after = rw body at c.write_front.ensures.after }
