use Rattle.std.proofs.Common.{Some, None}
use Rattle.logs.proofs.Seeking.{nth_entry}
use Rattle.logs.proofs.byte_log.calls.ByteLogLog.get.Goals as goal

pub returns-in_err-entry : goal.returns-in_err-entry
returns-in_err-entry c = rw (c.from_residual.ensures, ← c.bytes.ensures) (nth_entry None _ c.nth.new.self c.args.i c.in_err-entry.ensures.ran)

pub returns : goal.returns
returns c = rw (← c.bytes.ensures) (nth_entry (Some (c.in_ok-entry.entry, c.in_ok-entry.field-0-1)) _ c.nth.new.self c.args.i c.in_ok-entry.ensures.ran)
