use Rattle.records.proofs.OneNumber.{mark-lawful}
use Rattle.records.proofs.entries.MarkRecordRecord.kind.Goals as goal

pub returns-clause-lawful : goal.returns-clause-lawful
returns-clause-lawful c = mark-lawful
