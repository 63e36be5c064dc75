-- Worked cases: what a reader can compute by hand, and the calls answer.
use Rattle.std.specs.Prelude.{◌≡◌, ℕ, [], ◌∷◌, ℤ, pos, negsuc, Ok, Err, Result}
use Rattle.kinds.specs.declared.accounts.Account.{Account}
use Rattle.cases.specs.declared.WorkedCases.{WorkedCases}
use Rattle.lines.specs.declared.faults.Layer.TheVariants.{Line}
use Rattle.lines.specs.declared.faults.LineFault.{LineFault}
use Rattle.lines.specs.declared.faults.Refusal.{Refusal}
use Rattle.kinds.specs.declared.stocks.StockLine.{StockLine}
use Rattle.lines.specs.Faults.{refusal}

-- an answer as a caller is told it
abbrev pub told : {L : Type 0} → Result L LineFault → Result L Refusal
told (Ok x) = Ok x
told (Err fault) = Err (refusal fault)

abbrev account : ℤ → ℕ → Result Account Refusal
account balance limit = Ok (record { balance = balance; limit = limit })

abbrev stock : ℕ → ℕ → Result StockLine Refusal
stock on_hand reserved = Ok (record { on_hand = on_hand; reserved = reserved })

-- refused with 24 by the kind of line, at line 0
abbrev against_rule : {L : Type 0} → Result L Refusal
against_rule = Err (record { number = 24; layer = Line; place = 0 })

pub record Worked (r : WorkedCases) : Type 0 where
  -- account 0, limit 100: 100 can be taken off, 101 cannot
  pub debit : told r.debit ≡ account (negsuc 99) 100
  pub debit_past : told r.debit_past ≡ against_rule
  -- at the ceiling 0 can be added, 1 cannot
  pub at_ceiling : told r.at_ceiling ≡ account (pos 1000000000000) 0
  pub past_ceiling : told r.past_ceiling ≡ against_rule
  -- of 10 pieces with 4 reserved, 6 more can be reserved, 7 cannot
  pub reserve : told r.reserve ≡ stock 10 10
  pub reserve_past : told r.reserve_past ≡ against_rule
  -- of 10 pieces with 4 reserved, 4 can be shipped, 5 cannot
  pub ship : told r.ship ≡ stock 6 0
  pub ship_past : told r.ship_past ≡ against_rule
  -- account −100, limit 100 is 9cffffffffffffff64000000
  pub payload : r.payload ≡ 0x9c ∷ 0xff ∷ 0xff ∷ 0xff ∷ 0xff ∷ 0xff ∷ 0xff ∷ 0xff ∷ 0x64 ∷ 0x00 ∷ 0x00 ∷ 0x00 ∷ []
  -- adding 500 to line 0 is logged as 0b000400000001f4010000
  pub command : r.command ≡ 0x0b ∷ 0x00 ∷ 0x04 ∷ 0x00 ∷ 0x00 ∷ 0x00 ∷ 0x01 ∷ 0xf4 ∷ 0x01 ∷ 0x00 ∷ 0x00 ∷ []
  -- mark 1 is 0800050001000000
  pub mark : r.mark ≡ 0x08 ∷ 0x00 ∷ 0x05 ∷ 0x00 ∷ 0x01 ∷ 0x00 ∷ 0x00 ∷ 0x00 ∷ []
