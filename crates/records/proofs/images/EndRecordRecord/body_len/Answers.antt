use Rattle.std.proofs.Common.{sym}
use Rattle.lines.proofs.LittleEndian.{length-le}
use Rattle.records.proofs.images.EndRecordRecord.body_len.Goals as goal

pub returns-clause-len : goal.returns-clause-len
returns-clause-len c = sym (length-le 2 c.args.count.now)
