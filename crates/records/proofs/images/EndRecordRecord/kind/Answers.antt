use Rattle.records.proofs.OneNumber.{end_lawful}
use Rattle.records.proofs.images.EndRecordRecord.kind.Goals as goal

pub returns-clause-lawful : goal.returns-clause-lawful
returns-clause-lawful c = end_lawful
