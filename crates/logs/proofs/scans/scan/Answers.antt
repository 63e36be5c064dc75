use Rattle.std.proofs.Common.{◌+◌, ◌≤◌, length, arith, rules}
use Rattle.lines.proofs.LittleEndian.{bytes_typed}
use Rattle.logs.specs.RecordRuns.{entries_in}
use Rattle.logs.proofs.Runs.{one_less, run, run_short}
use Rattle.logs.proofs.scans.scan.Goals as goal

pub overflow_add-run : goal.overflow_add-run
overflow_add-run c =
    let bs = c.args.bytes.now in
    let passed = one_less (entries_in c.loop-len.len-iterator.0.now) (entries_in c.next.new.self.0.now) _ _ c.in-Some.ensures.steps in
    let short = run_short bs (entries_in bs) (run bs (bytes_typed bs c.type_inv.bytes)) in
    let few : c.loop-len.run.count + 1 ≤ length bs = omega arith in
    search rules

pub overflow_add-run-in-loop-len : goal.overflow_add-run-in-loop-len
overflow_add-run-in-loop-len c =
    let bs = c.args.bytes.now in
    let passed = one_less (entries_in c.loop-len.len-iterator.0.now) (entries_in c.next.new.self.0.now) _ _ c.in-Some.ensures.steps in
    let short = run_short bs (entries_in bs) (run bs (bytes_typed bs c.type_inv.bytes)) in
    let inside : c.loop-len.run.len + c.in-Some.len ≤ length bs = omega arith in
    search rules

pub loop-len-preserved : goal.loop-len-preserved
loop-len-preserved c =
    let passed = one_less (entries_in c.loop-len.len-iterator.0.now) (entries_in c.next.new.self.0.now) _ _ c.in-Some.ensures.steps in
    record { count = omega arith; spent = omega arith }

pub returns-clause-longest : goal.returns-clause-longest
returns-clause-longest c = run c.args.bytes.now (bytes_typed c.args.bytes.now c.type_inv.bytes)
