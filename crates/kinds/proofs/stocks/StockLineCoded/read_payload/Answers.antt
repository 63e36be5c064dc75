use Rattle.std.proofs.Common.{◌≡◌, sym, ◌∙◌, rules}
use Rattle.lines.proofs.LittleEndian.{bytes_typed}
use Rattle.lines.proofs.Payloads.{unread, was_read, read_kept, length_two, two_again}
use Rattle.kinds.specs.Stocks.{decoded, keeps, payload}
use Rattle.kinds.proofs.stocks.StockLineCoded.read_payload.Goals as goal

pub returns-in_err-on_hand : goal.returns-in_err-on_hand
returns-in_err-on_hand c =
    let bs = c.args.bytes.now in
    let long = length_two 4 4 (decoded bs).on_hand (decoded bs).reserved in
    c.from_residual.ensures ∙ sym (unread 4 4 decoded keeps payload bs long c.in_err-on_hand.ensures)

pub returns : goal.returns
returns c =
    let bs = c.args.bytes.now in
    let read = was_read 4 4 decoded keeps payload bs c.in_ok-on_hand.on_hand c.in_ok-on_hand.reserved c.in_ok-on_hand.ensures in
    let whole = two_again 4 4 bs (bytes_typed bs c.type_inv.bytes) read.0 in
    let decodes : decoded bs ≡ record { on_hand = c.in_ok-on_hand.on_hand; reserved = c.in_ok-on_hand.reserved } = rw (read.1, read.2) in
    search (rules, read_kept decoded keeps payload bs _ whole decodes)
