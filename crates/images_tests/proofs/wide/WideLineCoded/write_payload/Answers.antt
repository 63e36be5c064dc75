use Rattle.std.proofs.Common.{sym, arith}
use Rattle.std.proofs.lemmas.List.{take_rest}
use Rattle.images_tests.specs.WideBytes.{length-payload, written_pairs}
use Rattle.images_tests.specs.Wide.{payload}
use Rattle.lines.proofs.Payloads.{put-short}
use Rattle.images_tests.proofs.wide.WideLineCoded.write_payload.Goals as goal

pub returns-then-out-lt26 : goal.returns-then-out-lt26
returns-then-out-lt26 c =
    let w = c.args.self.now in
    let short = put-short (payload w) c.args.out.now (omega (arith, length-payload w, c.if-out-lt26.true)) in
    record { answer = sym short.0; after = sym short.1 }

pub returns : goal.returns
returns c =
    let put = written_pairs c.args.self.now c.args.out.now c.if-out-lt26.false in
    record { answer = sym put.0; after = rw (c.write_two-2.ensures.after, take_rest, c.write_two.ensures.after) put.1 }
