-- Numbers as a script writes them: decimal digits, leading zeros allowed, with no sign but the `-` of a signed number.
-- A word is a list of bytes.
--
--   digit c      whether c is one of `0` to `9`
--   digits cs    whether all of cs are
--   value n cs   the number that the digits cs write behind the number n
--   decimal cs   the number that cs writes, if it is one digit or more and fits eight bytes
--   signed cs    the same with a `-` allowed in front, if it fits eight bytes in two's complement
use Rattle.std.specs.Prelude.{ℕ, ◌+◌, ◌-◌, ◌*◌, ◌^◌, Bool, true, cond, ◌&&◌, List, [], ◌∷◌, drop, ℤ, pos, neg_ℤ, Some, None, Option, ◌==◌, nat_le, nat_lt, slice_index}

abbrev pub digit : ℕ → Bool
digit c = nat_le 48 c && nat_le c 57

abbrev pub digits : List ℕ → Bool
digits [] = true
digits (c ∷ cs) = digit c && digits cs

abbrev pub value : ℕ → List ℕ → ℕ
value n [] = n
value n (c ∷ cs) = value (n * 10 + (c - 48)) cs

-- the number n with the digit c behind it, if c is one and the number fits
abbrev pub longer : ℕ → ℕ → Option ℕ
longer n c = cond (digit c && nat_lt (n * 10 + (c - 48)) (2 ^ 64)) (Some (n * 10 + (c - 48))) None

-- the number that cs writes behind n, if all of cs are digits and it fits
abbrev pub behind : ℕ → List ℕ → Option ℕ
behind n cs = cond (digits cs && nat_lt (value n cs) (2 ^ 64)) (Some (value n cs)) None

abbrev pub decimal : List ℕ → Option ℕ
decimal [] = None
decimal (c ∷ cs) = behind 0 (c ∷ cs)

abbrev pub positive : Option ℕ → Option ℤ
positive None = None
positive (Some n) = cond (nat_lt n (2 ^ 63)) (Some (pos n)) None

abbrev pub negative : Option ℕ → Option ℤ
negative None = None
negative (Some n) = cond (nat_le n (2 ^ 63)) (Some (neg_ℤ (pos n))) None

abbrev pub signed : List ℕ → Option ℤ
signed cs = cond (slice_index cs 0 == 45) (negative (decimal (drop 1 cs))) (positive (decimal cs))
