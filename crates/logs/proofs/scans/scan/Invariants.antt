use Rattle.std.proofs.Common.{◌≡◌, ◌+◌, length}
use Rattle.logs.specs.Logs.{spent}
use Rattle.logs.specs.RecordRuns.{entries_in, byte_cost}
use Rattle.logs.proofs.scans.scan.Given as goal

-- what is left holds the entries that are not yet counted
abbrev pub invariant-loop-len : goal.invariant-loop-len
invariant-loop-len l = record {
  count : l.run.count + length (entries_in l.len-iterator.0.now) ≡ length (entries_in l.bytes);
  spent : l.run.len + spent byte_cost (entries_in l.len-iterator.0.now) ≡ spent byte_cost (entries_in l.bytes);
}
