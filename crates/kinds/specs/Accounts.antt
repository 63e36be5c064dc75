-- The account: what a builder owes or has, and how far he may owe. Amounts are in cents.
--
--   ceiling      no balance is above it: ten thousand million in whole units
--   keeps        −limit ≤ balance ≤ ceiling. A limit has four bytes; a definition ranges over all numbers, and says so
--   payload      the balance in eight bytes, two's complement, then the limit in four
--   decoded      the account that twelve bytes hold
--   account_change    the change of that code, if there is one
--   account_changes   1 adds the amount to the balance, 2 takes it off, 3 makes it the limit
--   account      all that an account is to whoever stores it
use Rattle.std.specs.Prelude.{ℕ, ◌^◌, Bool, cond, ◌&&◌, ◌==◌, List, [], ◌∷◌, ◌++◌, take, drop, ℤ, pos, ◌+ℤ◌, ◌-ℤ◌, neg_ℤ, Some, Option, Ok, Err, Result, int_le, nat_lt}
use Rattle.std.specs.Int.{w64}
use Rattle.std.proofs.Common.{to_z, of_z}
use Rattle.kinds.specs.declared.accounts.Account.{Account}
use Rattle.kinds.specs.declared.accounts.AccountChange.{AccountChange}
use Rattle.kinds.specs.declared.accounts.AccountChange.TheVariants.{Add, TakeOff, SetLimit}
use Rattle.lines.specs.declared.changes.UnknownKind.{UnknownKind}
use Rattle.lines.specs.Bytes.{le, number}
use Rattle.lines.specs.Changing.{Outcome, chosen}
use Rattle.lines.specs.Coding.{Coding, read_by}

abbrev pub ceiling : ℤ
ceiling = pos 1000000000000

abbrev pub keeps : Account → Bool
keeps a = int_le (neg_ℤ (pos a.limit)) a.balance && (int_le a.balance ceiling && nat_lt a.limit (2 ^ 32))

abbrev pub payload : Account → List ℕ
payload a = le 8 (of_z w64 a.balance) ++ le 4 a.limit

abbrev pub decoded : List ℕ → Account
decoded bs = record { balance = to_z w64 (number (take 8 bs)); limit = number (drop 8 bs) }

abbrev pub account_change : ℕ → Result AccountChange UnknownKind
account_change code = cond (code == 1) (Ok Add) (cond (code == 2) (Ok TakeOff) (cond (code == 3) (Ok SetLimit) (Err (record { code = code }))))

abbrev with_balance : Account → ℤ → Option Account
with_balance a balance = Some (record { balance = balance; limit = a.limit })

abbrev with_limit : Account → ℕ → Option Account
with_limit a limit = Some (record { balance = a.balance; limit = limit })

abbrev pub account_changes : Account → ℕ → List (ℕ × Option Account)
account_changes a amount =
    (1, with_balance a (a.balance +ℤ pos amount))
    ∷ (2, with_balance a (a.balance -ℤ pos amount))
    ∷ (3, with_limit a amount)
    ∷ []

abbrev pub account_changed : Account → ℕ → ℕ → Outcome Account
account_changed a kind amount = chosen keeps (account_changes a amount) kind

abbrev pub account : Coding Account
account = record {
  code = 1;
  width = 12;
  keeps = keeps;
  payload = payload;
  reading = read_by decoded keeps payload;
}
