use Rattle.std.proofs.Common.{◌^◌, ◌<◌, arith, rules}
use Rattle.std.proofs.lemmas.Bool.Decides.{nat_tests}
use Rattle.lines.proofs.LittleEndian.{le_2, le_4}
use Rattle.records.specs.Changes.{change_bytes}
use Rattle.records.proofs.FieldBytes.{le_1}
use Rattle.records.proofs.commands.bodies.change_bytes.Goals as goal

pub returns : goal.returns
unfolding change_bytes
returns c =
    let x = c.args.change in
    let small : (x.line < 2 ^ 16) × (x.kind < 256) × (x.amount < 2 ^ 32) = search rules in
    record {
      bytes = rw (c.copy_from_slice.ensures.after, c.copy_from_slice-2.ensures.after, c.to_le_bytes.ensures, c.to_le_bytes-2.ensures, le_1 x.kind small.1, le_2 x.line, le_4 x.amount);
      fits = grind (arith, nat_tests);
    }
