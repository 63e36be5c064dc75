use Rattle.std.proofs.Common.{rules}
use Rattle.lines.proofs.LittleEndian.{bytes_typed}
use Rattle.records.proofs.Framed.{one_reading}
use Rattle.records.proofs.frames.read_record.Goals as goal

pub returns-in_err-len-clause-one : goal.returns-in_err-len-clause-one
returns-in_err-len-clause-one g c =
    one_reading g.R.Record.layout c.args.bytes.now c.kind.ensures.lawful (bytes_typed c.args.bytes.now c.type_inv.bytes) _ (search rules)

pub returns-in_err-value-clause-one : goal.returns-in_err-value-clause-one
returns-in_err-value-clause-one g c =
    one_reading g.R.Record.layout c.args.bytes.now c.kind.ensures.lawful (bytes_typed c.args.bytes.now c.type_inv.bytes) _ (search rules)

pub returns-clause-one : goal.returns-clause-one
returns-clause-one g c =
    one_reading g.R.Record.layout c.args.bytes.now c.kind.ensures.lawful (bytes_typed c.args.bytes.now c.type_inv.bytes) _ (search rules)
