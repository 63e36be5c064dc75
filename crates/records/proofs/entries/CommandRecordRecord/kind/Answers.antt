use Rattle.records.proofs.CommandValues.{command-lawful}
use Rattle.records.proofs.entries.CommandRecordRecord.kind.Goals as goal

pub returns-clause-lawful : goal.returns-clause-lawful
returns-clause-lawful c = command-lawful
