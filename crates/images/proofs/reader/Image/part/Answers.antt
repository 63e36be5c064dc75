use Rattle.std.proofs.Common.{arith}
use Rattle.images.proofs.Handing.{part_cut, part_found, hands_part}
use Rattle.images.proofs.reader.Image.part.Goals as goal

pub returns-in_err-line : goal.returns-in_err-line
returns-in_err-line g c =
    let s = c.args.self in
    let found = part_cut g.C.Coded.coding s.bytes.now s.count c.args.k c.width-len.result c.width-len.ensures (omega (arith, c.in_err-line.ensures.lookup.0)) in
    record { answer = rw c.from_residual.ensures found; lawful = hands_part g.C.Coded.coding g.met.C.Coded.lawful s.bytes.now s.count c.args.k _ (rw c.from_residual.ensures found) }

pub returns : goal.returns
returns g c =
    let s = c.args.self in
    let cut = c.in_ok-line.ensures.lookup.0 in
    let found = part_found g.C.Coded.coding s.bytes.now c.in_ok-line.line.now s.count c.args.k c.width-len.result c.in_ok-read.field-0 c.width-len.ensures (omega arith) cut.1 cut.2 c.in_ok-read.ensures in
    record { answer = found; lawful = hands_part g.C.Coded.coding g.met.C.Coded.lawful s.bytes.now s.count c.args.k _ found }
