use Rattle.std.proofs.Common.{◌≡◌, length}
use Rattle.lines.proofs.LittleEndian.{bytes_typed}
use Rattle.joins.specs.Joining.{joined, within, lengthed, laid_in}
use Rattle.joins.proofs.Answered.{read_as, join_law}
use Rattle.joins.proofs.Grouped.{grouped}
use Rattle.joins.proofs.join.join.Goals as goal

pub returns-in_err-earlier-clause-grouping : goal.returns-in_err-earlier-clause-grouping
returns-in_err-earlier-clause-grouping g c = grouped g.C.Coded.coding g.met.C.Coded.lawful

pub returns-in_err-later-clause-grouping : goal.returns-in_err-later-clause-grouping
returns-in_err-later-clause-grouping g c = grouped g.C.Coded.coding g.met.C.Coded.lawful

pub join-requires : goal.join-requires
join-requires g c =
    let old = read_as g.C.Coded.coding c.args.earlier.now c.read.ensures.one c.in_ok-earlier.earlier c.read.result c.read.ensures.answer c.in_ok-earlier.ensures.cases in
    let new = read_as g.C.Coded.coding c.args.later.now c.read-2.ensures.one c.in_ok-later.later c.read-2.result c.read-2.ensures.answer c.in_ok-later.ensures.cases in
    record { old = old.0; new = new.0; read_old = old.2; read_new = new.2 }

pub returns : goal.returns
returns g c =
    let f = g.C.Coded.coding in
    let x = c.args.earlier.now in
    let y = c.args.later.now in
    let m = c.args.out.now in
    let old = read_as f x c.read.ensures.one c.in_ok-earlier.earlier c.read.result c.read.ensures.answer c.in_ok-earlier.ensures.cases in
    let new = read_as f y c.read-2.ensures.one c.in_ok-later.later c.read-2.result c.read-2.ensures.answer c.in_ok-later.ensures.cases in
    let answer : c.join.result ≡ lengthed (within (length m) (joined f x y)) = rw (old.1, new.1) (c.join.ensures.answer old.0 new.0 old.2 new.2) in
    let after : c.join.new.out ≡ laid_in m (within (length m) (joined f x y)) = rw (old.1, new.1) (c.join.ensures.after old.0 new.0 old.2 new.2) in
    record { answer = answer; after = after; lawful = join_law f g.met.C.Coded.lawful x y m (bytes_typed x c.type_inv.earlier) (bytes_typed y c.type_inv.later) _ _ answer after; grouping = grouped f g.met.C.Coded.lawful }
