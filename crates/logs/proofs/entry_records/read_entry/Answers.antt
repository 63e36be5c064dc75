use Rattle.std.proofs.Common.{refl}
use Rattle.logs.proofs.entry_records.read_entry.Goals as goal

pub returns-in-Some-clause-len : goal.returns-in-Some-clause-len
returns-in-Some-clause-len c = (c.in-Some.ensures.one.only c.in-Some.command c.in-Some.len refl).1

pub returns-clause-len : goal.returns-clause-len
returns-clause-len c = (c.in_ok-point.ensures.one.only c.in_ok-point.point c.in_ok-point.len refl).1
