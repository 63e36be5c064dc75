use Rattle.std.proofs.Common.{◌≡◌, pos, ◌+ℤ◌, ◌-ℤ◌, rules}
use Rattle.std.specs.Int.{saturate_to_bits}
use Rattle.kinds.proofs.AccountSums.{of, judged_saturated}
use Rattle.kinds.proofs.accounts.AccountLine.change.Goals as goal
use Rattle.kinds.proofs.accounts.AccountLine.change.Goals.{in-Add, in-TakeOff, in-SetLimit}

pub returns : goal.returns
returns c =
    let a = c.args.self.now in
    let amount = pos c.args.change.amount in
    elim c.match-kind.branch [
      | in-Add w ↦
          let changed : c.match-kind.changed ≡ of (saturate_to_bits 63 (a.balance +ℤ amount)) a.limit = search rules in
          let judged = judged_saturated (a.balance +ℤ amount) a.limit in
          search rules
      | in-TakeOff w ↦
          let changed : c.match-kind.changed ≡ of (saturate_to_bits 63 (a.balance -ℤ amount)) a.limit = search rules in
          let judged = judged_saturated (a.balance -ℤ amount) a.limit in
          search rules
      | in-SetLimit w ↦ search rules
    ]
