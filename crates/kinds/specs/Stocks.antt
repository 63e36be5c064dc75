-- The stock line: how many pieces of an article are on hand, and how many of them are reserved.
--
--   ceiling         no more pieces than this are on hand
--   keeps           reserved ≤ on hand ≤ ceiling
--   payload         the pieces on hand in four bytes, then those reserved in four
--   decoded         the stock line that eight bytes hold
--   more s h r      s with h pieces more on hand and r more reserved
--   less s h r      s with h pieces fewer on hand and r fewer reserved; none, where a number would be below zero
--   stock_change    the change of that code, if there is one
--   stock_changes   1 adds the amount to on hand, 2 adds it to reserved, 3 takes it off reserved, 4 takes it off both
--   stock           all that a stock line is to whoever stores it
use Rattle.std.specs.Prelude.{ℕ, ◌+◌, ◌-◌, Bool, cond, ◌&&◌, ◌==◌, List, [], ◌∷◌, ◌++◌, take, drop, Some, None, Option, Ok, Err, Result, nat_le}
use Rattle.kinds.specs.declared.stocks.StockLine.{StockLine}
use Rattle.kinds.specs.declared.stocks.StockChange.{StockChange}
use Rattle.kinds.specs.declared.stocks.StockChange.TheVariants.{Receive, Reserve, Release, Ship}
use Rattle.lines.specs.declared.changes.UnknownKind.{UnknownKind}
use Rattle.lines.specs.Bytes.{le, number}
use Rattle.lines.specs.Changing.{Outcome, chosen}
use Rattle.lines.specs.Coding.{Coding, read_by}

abbrev pub ceiling : ℕ
ceiling = 10000000

abbrev pub keeps : StockLine → Bool
keeps s = nat_le s.reserved s.on_hand && nat_le s.on_hand ceiling

abbrev pub payload : StockLine → List ℕ
payload s = le 4 s.on_hand ++ le 4 s.reserved

abbrev pieces : ℕ → ℕ → StockLine
pieces on_hand reserved = record { on_hand = on_hand; reserved = reserved }

abbrev pub decoded : List ℕ → StockLine
decoded bs = pieces (number (take 4 bs)) (number (drop 4 bs))

abbrev pub more : StockLine → ℕ → ℕ → Option StockLine
more s on_hand reserved = Some (pieces (s.on_hand + on_hand) (s.reserved + reserved))

abbrev pub less : StockLine → ℕ → ℕ → Option StockLine
less s on_hand reserved =
    cond (nat_le on_hand s.on_hand && nat_le reserved s.reserved)
    (Some (pieces (s.on_hand - on_hand) (s.reserved - reserved)))
    None

abbrev pub stock_change : ℕ → Result StockChange UnknownKind
stock_change code =
    cond (code == 1) (Ok Receive) (cond (code == 2) (Ok Reserve) (cond (code == 3) (Ok Release) (cond (code == 4) (Ok Ship) (Err (record { code = code })))))

abbrev pub stock_changes : StockLine → ℕ → List (ℕ × Option StockLine)
stock_changes s amount =
    (1, more s amount 0)
    ∷ (2, more s 0 amount)
    ∷ (3, less s 0 amount)
    ∷ (4, less s amount amount)
    ∷ []

abbrev pub stock_changed : StockLine → ℕ → ℕ → Outcome StockLine
stock_changed s kind amount = chosen keeps (stock_changes s amount) kind

abbrev pub stock : Coding StockLine
stock = record {
  code = 2;
  width = 8;
  keeps = keeps;
  payload = payload;
  reading = read_by decoded keeps payload;
}
