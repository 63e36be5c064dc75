-- The bytes of a stock line: they decode to it, and eight bytes are the payload of what they decode to.
use Rattle.std.specs.Prelude.{◌≡◌, ◌^◌, ◌<◌, true}
use Rattle.std.proofs.Common.{arith}
use Rattle.std.proofs.lemmas.Bool.Decides.{nat_tests}
use Rattle.kinds.specs.declared.stocks.StockLine.{StockLine}
use Rattle.kinds.specs.Stocks.{decoded, keeps, payload}
use Rattle.lines.proofs.Payloads.{first_of_two, second_of_two}

-- numbers that the rule allows fit their four bytes
fits : (s : StockLine) → keeps s ≡ true → (s.on_hand < 2 ^ 32) × (s.reserved < 2 ^ 32)
fits s h = grind (arith, nat_tests)

pub decoded-payload : (s : StockLine) → keeps s ≡ true → decoded (payload s) ≡ s
decoded-payload s h =
    let f = fits s h in
    rw (first_of_two 4 4 s.on_hand s.reserved f.0, second_of_two 4 4 s.on_hand s.reserved f.1)
