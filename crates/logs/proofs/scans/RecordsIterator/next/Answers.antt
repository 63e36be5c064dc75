use Rattle.std.proofs.Common.{length, ap, rules}
use Rattle.std.proofs.lemmas.List.{take_rest}
use Rattle.logs.proofs.Runs.{next_record}
use Rattle.logs.proofs.scans.RecordsIterator.next.Goals as goal

pub returns-clause-steps : goal.returns-clause-steps
returns-clause-steps c =
    let bs = c.args.self.now.0.now in
    rw (take_rest bs c.in_ok-entry.len) (next_record bs _ _ c.in_ok-entry.ensures.len c.in_ok-entry.ensures.answer)

pub returns-clause-goes : goal.returns-clause-goes
returns-clause-goes c =
    let fewer = ap length (returns-clause-steps c) in
    search rules
