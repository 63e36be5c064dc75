use Rattle.std.proofs.Common.{◌≡◌, min, length, take, sym, ap, ◌∙◌, arith}
use Rattle.std.proofs.lemmas.List.{length-take-le, take-take}
use Rattle.logs.specs.ByteLogs.{byte_capacity, byte_log}
use Rattle.logs.specs.RecordRuns.{entries_in, written}
use Rattle.logs.proofs.ByteRuns.{fit}
use Rattle.logs.proofs.Cutting.{entries_cut}
use Rattle.logs.proofs.byte_log.ByteLog.len.Goals as goal

pub returns-clause-cuts : goal.returns-clause-cuts
returns-clause-cuts c = λ u h.
    let log = c.args.self.now in
    let m = log.memory.now in
    let long : length c.bytes.result.now ≡ log.used = ap length c.bytes.ensures ∙ length-take-le log.used m log.inside in
    let part : min u (byte_capacity m) ≡ u = omega (arith, log.inside, log.few) in
    let bytes : take u m ≡ take u (written (byte_log log).entries) = sym (take-take u log.used m (omega (arith, h, long))) ∙ ap (take u) (sym log.whole) in
    rw part (ap entries_in bytes ∙ entries_cut (byte_log log).entries u (fit log))
