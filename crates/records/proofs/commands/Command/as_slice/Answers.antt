use Rattle.std.proofs.Common.{◌≡◌, ◌-◌, ◌∙◌, arith}
use Rattle.records.proofs.CommandValues.{same-command}
use Rattle.records.proofs.commands.Command.as_slice.Goals as goal

pub returns : goal.returns
returns c =
    let command = c.args.self.now in
    let all : command.len - 0 ≡ command.len = omega arith in
    record { changes = rw all; alone = λ other e. same-command other command (e ∙ rw all) }
