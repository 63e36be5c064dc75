-- The bytes of an account: they decode to it, and twelve bytes are the payload of what they decode to.
use Rattle.std.specs.Prelude.{◌≡◌, ℕ, ◌^◌, ◌<◌, true, List, length, take, FitsSigned}
use Rattle.std.proofs.Common.{arith, of_z}
use Rattle.std.specs.Int.{w64}
use Rattle.std.proofs.ByRecursion.{All-take}
use Rattle.std.proofs.lemmas.List.{length-take}
use Rattle.std.proofs.lemmas.Int.{ints, to_z-of_z, of_z-to_z}
use Rattle.std.proofs.lemmas.Bool.Decides.{nat_tests}
use Rattle.kinds.specs.declared.accounts.Account.{Account}
use Rattle.kinds.specs.Accounts.{decoded, keeps, payload}
use Rattle.lines.specs.Bytes.{Bytes, number}
use Rattle.lines.proofs.LittleEndian.{number_lt}
use Rattle.lines.proofs.Payloads.{first_of_two, second_of_two, two_again}

-- a balance that the rule allows fits its eight bytes
fits_balance : (a : Account) → keeps a ≡ true → FitsSigned w64 a.balance
fits_balance a h = grind (arith, ints, nat_tests)

fits_limit : (a : Account) → keeps a ≡ true → a.limit < 2 ^ 32
fits_limit a h = grind (arith, ints, nat_tests)

bits_lt : (a : Account) → FitsSigned w64 a.balance → of_z w64 a.balance < 256 ^ 8
bits_lt a f = omega (arith, ints)

pub decoded-payload : (a : Account) → keeps a ≡ true → decoded (payload a) ≡ a
decoded-payload a h =
    let f : FitsSigned w64 a.balance = fits_balance a h in
    rw (
      first_of_two 8 4 (of_z w64 a.balance) a.limit (bits_lt a f),
      second_of_two 8 4 (of_z w64 a.balance) a.limit (fits_limit a h),
      to_z-of_z w64 a.balance f,
    )

pub payload-decoded : (bs : List ℕ) → Bytes bs → length bs ≡ 12 → payload (decoded bs) ≡ bs
payload-decoded bs h e =
    let front : length (take 8 bs) ≡ 8 = simp length-take (omega arith) in
    let small = rw front at (number_lt (take 8 bs) (All-take (λ b. b < 256) 8 bs h)) in
    rw (of_z-to_z w64 (number (take 8 bs)) small) (two_again 8 4 bs h e)
