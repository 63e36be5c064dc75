use Rattle.std.proofs.Common.{◌≡◌, ◌+◌, ◌++◌, length, Some, sym, ap, ◌∙◌, arith}
use Rattle.lines.specs.Bytes.{le, put}
use Rattle.std.proofs.lemmas.List.{take_rest}
use Rattle.records.proofs.Framed.{framed_short, framed_behind}
use Rattle.records.proofs.frames.write_record.Goals as goal

pub returns-then-out-len : goal.returns-then-out-len
returns-then-out-len g c =
    let l = g.R.Record.layout in
    let short = framed_short l.kind (l.body c.args.value.now) c.args.out.now (omega (arith, c.body_len-len.ensures.len)) in
    record { answer = sym short.0; after = sym short.1; fits = c.body_len-len.ensures.fits }

pub returns : goal.returns
returns g c =
    let l = g.R.Record.layout in
    let body = l.body c.args.value.now in
    let out = c.args.out.now in
    let len = c.body_len-len.ensures.len in
    let written = framed_behind l.kind body out (omega (arith, len)) in
    let front : c.write_two.new.out ≡ put (le 2 (4 + length body) ++ le 2 l.kind) out = rw (c.write_two.ensures.after, len, c.from.ensures, c.kind.ensures.number) in
    record {
      answer = ap (λ n. Some (4 + n)) len ∙ sym written.0;
      after = rw (c.write_body.ensures.after, take_rest, front) written.1;
      fits = c.body_len-len.ensures.fits;
    }
