use Rattle.std.proofs.Common.{sym, ◌∙◌, arith, rules}
use Rattle.images_tests.specs.WideBytes.{length-payload, payload-decoded, pair_there, decoded_pairs}
use Rattle.images_tests.specs.Wide.{decoded, keeps, payload}
use Rattle.lines.proofs.LittleEndian.{bytes_typed}
use Rattle.lines.proofs.Payloads.{read_none, read_kept, was_read}
use Rattle.images_tests.proofs.wide.WideLineCoded.read_payload.Goals as goal

pub returns-in_err-front : goal.returns-in_err-front
returns-in_err-front c =
    let bs = c.args.bytes.now in
    c.from_residual.ensures ∙ sym (read_none decoded keeps payload bs (λ e. omega (arith, length-payload (decoded bs), c.in_err-front.ensures.cases)))

pub returns-in_err-third : goal.returns-in_err-third
returns-in_err-third c =
    let bs = c.args.bytes.now in
    let cut = c.in_ok-front.ensures.cases in
    c.from_residual-in_err-third.ensures
    ∙ sym (read_none decoded keeps payload bs (λ e. pair_there 8 2 c.in_ok-front.back.now (omega (arith, length-payload (decoded bs), cut.4)) c.in_err-third.ensures))

pub returns : goal.returns
returns c =
    let bs = c.args.bytes.now in
    let cut = c.in_ok-front.ensures.cases in
    let front = was_read 8 8 decoded keeps payload c.in_ok-front.front.now c.in_ok-first.first c.in_ok-first.second c.in_ok-first.ensures in
    let back = was_read 8 2 decoded keeps payload c.in_ok-front.back.now c.in_ok-third.third c.in_ok-third.fourth c.in_ok-third.ensures in
    let read = decoded_pairs bs c.in_ok-front.front.now c.in_ok-front.back.now
    (record { first = c.in_ok-first.first; second = c.in_ok-first.second; third = c.in_ok-third.third; fourth = c.in_ok-third.fourth })
    cut.1 cut.2 front.0 back.0 front.1 front.2 back.1 back.2 in
    search (rules, read_kept decoded keeps payload bs _ (payload-decoded bs (bytes_typed bs c.type_inv.bytes) read.0) read.1)
