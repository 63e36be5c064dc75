-- A balance that stops at an end of its type is judged as the true sum is: both break the rule.
use Rattle.std.proofs.Common.{◌≡◌, ℕ, ◌^◌, false, ◌⊎◌, ℤ, pos, negsuc, Some, ap, inl, inr, arith}
use Rattle.std.proofs.lemmas.Int.{ints}
use Rattle.std.proofs.lemmas.Bool.{cases_lt}
use Rattle.std.proofs.lemmas.Bool.Decides.{nat_tests}
use Rattle.std.specs.Int.{saturate_to_bits}
use Rattle.kinds.specs.declared.accounts.Account.{Account}
use Rattle.kinds.specs.Accounts.{keeps}
use Rattle.lines.specs.Changing.{judged}

abbrev pub of : ℤ → ℕ → Account
of balance limit = record { balance = balance; limit = limit }

inside : (z : ℤ) (l : ℕ) → (saturate_to_bits 63 z ≡ z) ⊎ ((keeps (of (saturate_to_bits 63 z) l) ≡ false) × (keeps (of z l) ≡ false))
inside (pos n) l = elim (cases_lt n (2 ^ 63)) [
  | inl low ↦ inl (ap pos (omega arith))
  | inr high ↦ inr (grind (arith, ints, nat_tests), grind (arith, ints, nat_tests))
]
inside (negsuc n) l = elim (cases_lt n (2 ^ 63)) [
  | inl low ↦ inl (ap negsuc (omega arith))
  | inr high ↦ inr (grind (arith, ints, nat_tests), grind (arith, ints, nat_tests))
]

pub judged_saturated : (z : ℤ) (l : ℕ) → judged keeps (Some (of (saturate_to_bits 63 z) l)) ≡ judged keeps (Some (of z l))
judged_saturated z l = elim (inside z l) [
  | inl same ↦ rw same
  | inr broken ↦ rw (broken.0, broken.1)
]
