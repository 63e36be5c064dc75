use Rattle.std.proofs.Common.{◌≡◌, rules}
use Rattle.records.specs.Numbers.{field}
use Rattle.records.proofs.FieldBytes.{field_1, field_2, field_4}
use Rattle.records.proofs.commands.bodies.change_in.Goals as goal

pub returns : goal.returns
returns c =
    let bs = c.args.bytes.now in
    let line : c.from_le_bytes.result ≡ field 0 2 bs = search (rules, field_2 0 bs) in
    let amount : c.from_le_bytes-2.result ≡ field 3 4 bs = search (rules, field_4 3 bs) in
    rw (line, field_1 2 bs, amount)
