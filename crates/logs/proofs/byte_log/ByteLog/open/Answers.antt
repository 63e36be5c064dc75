use Rattle.std.proofs.Common.{min, length, sym, ap, ◌∙◌, arith}
use Rattle.logs.specs.ByteLogs.{byte_capacity}
use Rattle.logs.proofs.ByteRuns.{front}
use Rattle.logs.proofs.byte_log.ByteLog.open.Goals as goal

pub invariant_of-result : goal.invariant_of-result
invariant_of-result c =
    let m = c.args.memory.now in
    let s = c.scan-run.ensures in
    let run = front m (min c.args.u (byte_capacity m)) c.scan-run.result.len c.usable.result.now c.usable.ensures s.longest s.len in
    record { inside = omega (arith, run.within); few = omega (arith, run.within); whole = run.whole; counted = s.count ∙ ap length (sym run.again) }

pub returns-clause-state : goal.returns-clause-state
returns-clause-state c =
    let m = c.args.memory.now in
    let s = c.scan-run.ensures in
    let run = front m (min c.args.u (byte_capacity m)) c.scan-run.result.len c.usable.result.now c.usable.ensures s.longest s.len in
    rw (run.again, c.usable.ensures)
