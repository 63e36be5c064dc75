-- Numbers as bytes, and bytes in memory. A byte is a number below 256, memory a list of bytes.
--
--   Bytes bs     every element of bs is a byte
--   le k n       the k lowest bytes of n, the lowest first (little-endian)
--   number bs    the number that bs writes, the lowest byte first
--   whole k bs   that number where there are just k bytes; else none
--   both x y     the pair of x and y, if there are both
--   same bs cs   whether two byte strings are equal
--   put bs m     memory m with bs at its front, the rest as it was; m itself where bs does not fit
--   overwritten m at bs   memory m with bs from the offset at on, the rest as it was
--   room bs m    how many bytes that wrote: the length of bs, or none where it does not fit
use Rattle.std.specs.Prelude.{ℕ, zero, suc, ◌+◌, ◌*◌, ◌/◌, ◌%◌, ◌<◌, Bool, true, false, cond, ◌&&◌, List, [], ◌∷◌, ◌++◌, length, take, drop, Some, None, Option, ◌==◌, nat_le}
use Rattle.std.specs.List.{AllByRecursion}

abbrev pub Bytes : List ℕ → Type 0
Bytes bs = AllByRecursion (λ b. b < 256) bs

unfoldable pub le : ℕ → ℕ → List ℕ
le zero n = []
le (suc k) n = n % 256 ∷ le k (n / 256)

unfoldable pub number : List ℕ → ℕ
number [] = 0
number (b ∷ bs) = b + number bs * 256

abbrev pub same : List ℕ → List ℕ → Bool
same [] [] = true
same [] (c ∷ cs) = false
same (b ∷ bs) [] = false
same (b ∷ bs) (c ∷ cs) = b == c && same bs cs

abbrev pub put : List ℕ → List ℕ → List ℕ
put bs m = cond (nat_le (length bs) (length m)) (bs ++ drop (length bs) m) m

abbrev pub room : List ℕ → List ℕ → Option ℕ
room bs m = cond (nat_le (length bs) (length m)) (Some (length bs)) None

abbrev pub overwritten : List ℕ → ℕ → List ℕ → List ℕ
overwritten m at bs = take at m ++ (bs ++ drop (at + length bs) m)

abbrev pub both : {A B : Type 0} → Option A → Option B → Option (A × B)
both None y = None
both (Some a) None = None
both (Some a) (Some b) = Some (a, b)

abbrev pub whole : ℕ → List ℕ → Option ℕ
whole k bs = cond (length bs == k) (Some (number bs)) None
