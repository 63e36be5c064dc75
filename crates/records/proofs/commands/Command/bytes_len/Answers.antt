use Rattle.std.proofs.Common.{◌≡◌, ◌<◌, length, ap, arith}
use Rattle.std.proofs.lemmas.List.{take_all}
use Rattle.records.specs.Commands.{changes_of}
use Rattle.records.proofs.ChangeBytes.{changes_fit_more, length-changes_bytes}
use Rattle.records.proofs.CommandValues.{length-changes}
use Rattle.records.proofs.commands.Command.bytes_len.Goals as goal

pub loop-change-preserved : goal.loop-change-preserved
loop-change-preserved c =
    let same = c.as_slice-change-items.ensures.changes in
    let inside : c.loop-change.change-index < length (changes_of c.args.self.now) = rw same at c.loop-change-test.true in
    let fits = rw same at c.change_bytes.ensures.fits in
    (omega (arith, c.loop-change.invariant.0), changes_fit_more (changes_of c.args.self.now) c.loop-change.change-index _ inside c.loop-change.invariant.1 fits)

pub returns : goal.returns
returns c =
    let cs = changes_of c.args.self.now in
    let i = c.loop-change.change-index in
    let long = length-changes_bytes cs in
    let all : i ≡ length cs = omega (arith, ap length c.as_slice-change-items.ensures.changes) in
    record {
      len = omega (arith, c.loop-change.invariant.0);
      short = omega (arith, c.loop-change.invariant.0, length-changes c.args.self.now, c.args.self.now.short);
      fits = rw (take_all i cs (omega arith)) at c.loop-change.invariant.1;
    }
