use Rattle.records.proofs.LineBytes.{line_lawful}
use Rattle.records.proofs.images.LineRecordRecord.kind.Goals as goal

pub returns-clause-lawful : goal.returns-clause-lawful
returns-clause-lawful g c = line_lawful g.C.Coded.coding g.met.C.Coded.lawful
