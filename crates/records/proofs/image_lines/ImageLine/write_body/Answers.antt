use Rattle.std.proofs.Common.{◌≡◌, ◌+◌, length, Some, sym, ap, ◌∙◌, arith}
use Rattle.std.proofs.lemmas.List.{take_rest}
use Rattle.lines.specs.Bytes.{le}
use Rattle.lines.proofs.LittleEndian.{length-le}
use Rattle.lines.proofs.Payloads.{put_fits, put-short, put_behind}
use Rattle.records.specs.ImageLines.{line_body}
use Rattle.records.proofs.LineBytes.{length_line}
use Rattle.records.proofs.image_lines.ImageLine.write_body.Goals as goal

pub returns-then-out-len : goal.returns-then-out-len
returns-then-out-len g c =
    let f = g.L.Coded.coding in
    let short = put-short (line_body f c.args.self.now) c.args.out.now (omega (arith, length_line f g.met.L.Coded.lawful c.args.self.now, c.width-len.ensures)) in
    record { answer = sym short.0; after = sym short.1 }

pub returns : goal.returns
returns g c =
    let f = g.L.Coded.coding in
    let v = c.args.self.now in
    let out = c.args.out.now in
    let long : 2 + c.width-len.result ≡ length (line_body f v) = omega (arith, length_line f g.met.L.Coded.lawful v, c.width-len.ensures) in
    let fits = put_fits (line_body f v) out (omega arith) in
    let behind = put_behind 2 (le 2 v.number) (f.payload v.line) out (length-le 2 v.number) (omega (arith, g.met.L.Coded.lawful.long v.line, c.width-len.ensures)) in
    record {
      answer = ap Some long ∙ sym fits.0;
      after = rw (c.write_payload.ensures.after, take_rest, c.write.ensures.after) behind;
    }
