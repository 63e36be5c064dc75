use Rattle.records.proofs.HeadBytes.{head-lawful}
use Rattle.records.proofs.images.HeadRecordRecord.kind.Goals as goal

pub returns-clause-lawful : goal.returns-clause-lawful
returns-clause-lawful c = head-lawful
