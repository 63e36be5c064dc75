use Rattle.images.proofs.Walks.{lists_all}
use Rattle.images.proofs.reader.Image.lines.Goals as goal

pub returns-clause-lawful : goal.returns-clause-lawful
returns-clause-lawful g c = lists_all g.C.Coded.coding g.met.C.Coded.lawful c.args.self.bytes.now c.args.self.count
