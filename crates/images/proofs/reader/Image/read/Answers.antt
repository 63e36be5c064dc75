use Rattle.std.proofs.Common.{sym}
use Rattle.std.proofs.lemmas.Result.{err_from_is_err_and}
use Rattle.lines.proofs.LittleEndian.{bytes_typed}
use Rattle.images.proofs.Outlines.{no_head, not_allowed, allowed}
use Rattle.images.proofs.Refused.{one_image}
use Rattle.images.proofs.reader.Image.read.Goals as goal
use Rattle.images.proofs.reader.Image.read.Goals.{in_default-via-in-Some+else-head_allowed, in_default-via-in_default}

pub returns-in_default : goal.returns-in_default
returns-in_default g c =
    let f = g.C.Coded.coding in
    let bs = c.args.bytes.now in
    record {
      answer = elim c.in_default.branch [
        | in_default-via-in-Some+else-head_allowed w ↦ not_allowed f bs w.in-Some.head w.in-Some.len w.in-Some.ensures.answer (sym w.if-head_allowed.ensures)
        | in_default-via-in_default w ↦ no_head f bs w.in_default.ensures.answer
      ];
      one = one_image f g.met.C.Coded.lawful bs (bytes_typed bs c.type_inv.bytes);
    }

pub returns-in_err-count-in-Some : goal.returns-in_err-count-in-Some
returns-in_err-count-in-Some g c =
    let f = g.C.Coded.coding in
    let bs = c.args.bytes.now in
    let fault = err_from_is_err_and c.from_residual.result c.from_residual.ensures.1 in
    record {
      answer = rw (fault.1, fault.2) (allowed f bs c.in-Some.head c.in-Some.len c.in-Some.ensures.answer (sym c.if-head_allowed.ensures) _ c.in_err-count-in-Some.ensures);
      one = one_image f g.met.C.Coded.lawful bs (bytes_typed bs c.type_inv.bytes);
    }

pub returns-in_ok-count-in-Some : goal.returns-in_ok-count-in-Some
returns-in_ok-count-in-Some g c =
    let f = g.C.Coded.coding in
    let bs = c.args.bytes.now in
    record {
      answer = allowed f bs c.in-Some.head c.in-Some.len c.in-Some.ensures.answer (sym c.if-head_allowed.ensures) _ c.in_ok-count-in-Some.ensures;
      one = one_image f g.met.C.Coded.lawful bs (bytes_typed bs c.type_inv.bytes);
    }
