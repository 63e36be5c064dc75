use Rattle.std.proofs.Common.{◌≡◌, sym, ◌∙◌, of_z, w64, rules}
use Rattle.lines.proofs.LittleEndian.{bytes_typed}
use Rattle.lines.proofs.Payloads.{unread, was_read, read_kept, length_two}
use Rattle.kinds.specs.AccountBytes.{payload-decoded}
use Rattle.kinds.specs.Accounts.{decoded, keeps, payload}
use Rattle.kinds.specs.declared.accounts.Account.{Account}
use Rattle.kinds.proofs.accounts.AccountCoded.read_payload.Goals as goal

pub returns-in_err-balance : goal.returns-in_err-balance
returns-in_err-balance c =
    let bs = c.args.bytes.now in
    let long = length_two 8 4 (of_z w64 (decoded bs).balance) (decoded bs).limit in
    c.from_residual.ensures ∙ sym (unread 8 4 decoded keeps payload bs long c.in_err-balance.ensures)

pub returns : goal.returns
returns c =
    let bs = c.args.bytes.now in
    let read = was_read 8 4 decoded keeps payload bs c.in_ok-balance.balance c.in_ok-balance.limit c.in_ok-balance.ensures in
    let whole = payload-decoded bs (bytes_typed bs c.type_inv.bytes) read.0 in
    let decodes : decoded bs ≡ record { balance = c.cast_signed.result; limit = c.in_ok-balance.limit } = rw (read.1, read.2, c.cast_signed.ensures) in
    search (rules, read_kept decoded keeps payload bs _ whole decodes)
