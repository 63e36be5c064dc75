use Rattle.std.proofs.Common.{◌≤◌, ◌+◌, refl, ap, arith, rules}
use borrow.Rule.Slice.Mut.{set_vals}
use Rattle.logs.specs.ByteLaws.{used_spent}
use Rattle.logs.specs.ByteLogs.{byte_log}
use Rattle.logs.proofs.Appending.{refused, accepted, same_log}
use Rattle.logs.proofs.Runs.{entries_few}
use Rattle.logs.proofs.byte_log.calls.ByteLogLog.append.Goals as goal

pub returns-in_default : goal.returns-in_default
returns-in_default c =
    let log = c.args.self.now in
    let wrote = c.in_default.ensures in
    let none = refused log c.args.entry c.min-end.result c.min-end.ensures c.write_entry.new.out wrote.answer wrote.after in
    record { answer = none.answer; state = none.state; same = same_log _ _ (ap (λ x. set_vals x log.memory) none.memory) refl refl; memory = none.memory }

pub overflow_add-self-2 : goal.overflow_add-self-2
overflow_add-self-2 c =
    let log = c.args.self.now in
    let small : log.count + 1 ≤ 65537 = omega (arith, log.few, log.counted, used_spent log, entries_few (byte_log log).entries) in
    search rules

pub invariant_of-self-2 : goal.invariant_of-self-2
invariant_of-self-2 c =
    let wrote = c.in-Some.ensures in
    let all = accepted c.args.self.now c.args.entry c.min-end.result c.min-end.ensures c.write_entry.new.out c.in-Some.len wrote.answer wrote.after wrote.fits in
    record { inside = all.inside; few = all.few; whole = all.whole; counted = all.counted }

pub returns : goal.returns
returns c =
    let wrote = c.in-Some.ensures in
    let all = accepted c.args.self.now c.args.entry c.min-end.result c.min-end.ensures c.write_entry.new.out c.in-Some.len wrote.answer wrote.after wrote.fits in
    record { answer = all.answer; state = all.state; same = tt; memory = all.memory }
