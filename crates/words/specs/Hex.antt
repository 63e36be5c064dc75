-- Bytes as a script writes them: two hexadecimal digits of either case for each byte, or a `-` alone for no bytes.
-- A word is a list of bytes.
--
--   nibble c    the number below 16 that the digit c stands for, if it is one of `0` to `9`, `A` to `F`, `a` to `f`
--   byte c d    the byte that the digits c and d write, the higher first, if both are digits
--   pairs cs    the bytes that cs writes, pair by pair, if every pair writes one and no digit is left over
--   hex cs      the bytes that the word cs writes: none at all for `-`, else those of its pairs, of which there is one or more
use Rattle.std.specs.Prelude.{ℕ, ◌+◌, ◌-◌, ◌*◌, cond, ◌&&◌, List, [], ◌∷◌, ◌++◌, length, Some, None, Option, ◌==◌, nat_le, slice_index}

abbrev pub nibble : ℕ → Option ℕ
nibble c = cond (nat_le 48 c && nat_le c 57) (Some (c - 48)) (cond (nat_le 65 c && nat_le c 70) (Some (c - 55)) (cond (nat_le 97 c && nat_le c 102) (Some (c - 87)) None))

-- two digits as one byte
abbrev pub both : Option ℕ → Option ℕ → Option ℕ
both None l = None
both (Some h) None = None
both (Some h) (Some l) = Some (h * 16 + l)

abbrev pub byte : ℕ → ℕ → Option ℕ
byte c d = both (nibble c) (nibble d)

-- bytes behind bs
abbrev pub behind_all : List ℕ → Option (List ℕ) → Option (List ℕ)
behind_all bs None = None
behind_all bs (Some more) = Some (bs ++ more)

-- bytes behind one
abbrev pub behind_one : Option ℕ → Option (List ℕ) → Option (List ℕ)
behind_one None o = None
behind_one (Some b) o = behind_all (b ∷ []) o

abbrev pub pairs : List ℕ → Option (List ℕ)
pairs [] = Some []
pairs (c ∷ []) = None
pairs (c ∷ (d ∷ cs)) = behind_one (byte c d) (pairs cs)

abbrev pub hex : List ℕ → Option (List ℕ)
hex cs = cond (length cs == 0) None (cond (length cs == 1 && slice_index cs 0 == 45) (Some []) (pairs cs))
