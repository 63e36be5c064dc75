use Rattle.std.proofs.Common.{arith}
use Rattle.records.proofs.LineBytes.{length_line}
use Rattle.records.proofs.images.LineRecordRecord.body_len.Goals as goal

pub returns-clause-len : goal.returns-clause-len
returns-clause-len g c = omega (arith, c.width.ensures, length_line g.C.Coded.coding g.met.C.Coded.lawful c.args._line.now)
