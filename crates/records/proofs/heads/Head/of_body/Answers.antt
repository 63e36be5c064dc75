use Rattle.std.proofs.Common.{◌≡◌, take, drop, get_or, Some, None, ap, ◌∙◌}
use Rattle.std.specs.Result.{result_ok}
use Rattle.lines.proofs.LittleEndian.{whole_some}
use Rattle.records.specs.Numbers.{field}
use Rattle.records.proofs.FieldBytes.{field_1}
use Rattle.records.proofs.HeadBytes.{head-short, head_read, mode_converted}
use Rattle.records.proofs.heads.Head.of_body.Goals as goal

pub returns-then-bytes-ne12 : goal.returns-then-bytes-ne12
returns-then-bytes-ne12 c = head-short c.args.bytes.now c.if-bytes-ne12.true

pub returns-in_err-ok : goal.returns-in_err-ok
returns-in_err-ok c =
    c.from_residual.ensures ∙ head_read c.args.bytes.now c.if-bytes-ne12.false None (c.in_err-ok.ensures.value ∙ ap result_ok c.try_from.ensures ∙ mode_converted (get_or c.args.bytes.now 1 0))

pub returns : goal.returns
returns c =
    let bs = c.args.bytes.now in
    let n : field 2 2 bs ≡ c.in_ok-read.field-0 = whole_some 2 (take 2 (drop 2 bs)) _ c.in_ok-read.ensures in
    let from : field 4 4 bs ≡ c.in_ok-read-2.field-0 = whole_some 4 (take 4 (drop 4 bs)) _ c.in_ok-read-2.ensures in
    let point : field 8 4 bs ≡ c.in_ok-read-3.field-0 = whole_some 4 (take 4 (drop 8 bs)) _ c.in_ok-read-3.ensures in
    rw (field_1 0 bs, n, from, point) at (head_read bs c.if-bytes-ne12.false (Some c.in_ok-ok.field-0) (c.in_ok-ok.ensures.value ∙ ap result_ok c.try_from.ensures ∙ mode_converted (get_or c.args.bytes.now 1 0)))
