-- What a record is: its length in bytes, counting all, then its kind, two bytes each, then a body.
--
--   framed kind body        the bytes of a record
--   record_length kind bs   the length of the record of that kind that bs begins with, if it is all there
--   Layout V                a kind of record over values V: its number, which values have a record at all (those
--                           whose numbers fit their bytes), the body of a value, and the value that a body reads as, if any
--   bytes_of l v            the record of v
--   sized n o               the value o, if any, with the length n
--   read_sized l bs o       the value in the body of the record of that length at the front of bs, with the length
--   read l bs               the value whose record bs begins with, and that record's length, if any
--   LawfulLayout l          what every layout owes: see its fields
--   OneReading l bs r       r is the reading of bs, in words: see its fields
use Rattle.std.specs.Prelude.{◌≡◌, ℕ, ◌+◌, ◌-◌, ◌≤◌, Bool, true, cond, ◌&&◌, List, ◌++◌, length, take, drop, Some, None, Option, ◌==◌, nat_le}
use Rattle.lines.specs.Bytes.{Bytes, le, number}

unfoldable pub framed : ℕ → List ℕ → List ℕ
framed kind body = le 2 (4 + length body) ++ (le 2 kind ++ body)

abbrev pub record_length : ℕ → List ℕ → Option ℕ
record_length kind bs =
    let n = number (take 2 bs) in
    cond (nat_le 4 n && (nat_le n (length bs) && number (take 2 (drop 2 bs)) == kind)) (Some n) None

pub record Layout (V : Type 0) : Type 0 where
  pub kind : ℕ
  pub fits : V → Bool
  pub body : V → List ℕ
  pub reading : List ℕ → Option V

abbrev pub bytes_of : {V : Type 0} → Layout V → V → List ℕ
bytes_of l v = framed l.kind (l.body v)

abbrev pub sized : {V : Type 0} → ℕ → Option V → Option (V × ℕ)
sized n None = None
sized n (Some v) = Some (v, n)

abbrev pub read_sized : {V : Type 0} → Layout V → List ℕ → Option ℕ → Option (V × ℕ)
read_sized l bs None = None
read_sized l bs (Some n) = sized n (l.reading (take (n - 4) (drop 4 bs)))

abbrev pub read : {V : Type 0} → Layout V → List ℕ → Option (V × ℕ)
read l bs = read_sized l bs (record_length l.kind bs)

pub record LawfulLayout {V : Type 0} (l : Layout V) : Type 0 where
  -- the kind fits its two bytes, and so does the length
  pub kind_small : l.kind ≤ 65535
  pub short : (v : V) → l.fits v ≡ true → length (l.body v) ≤ 28
  -- a body is bytes
  pub bytes : (v : V) → Bytes (l.body v)
  -- a value that fits reads back from its body
  pub reads_back : (v : V) → l.fits v ≡ true → l.reading (l.body v) ≡ Some v
  -- bytes read as a value only if it fits and is written so
  pub reads_only : (bs : List ℕ) (v : V) → Bytes bs → l.reading bs ≡ Some v → (l.fits v ≡ true) × (l.body v ≡ bs)

pub record OneReading {V : Type 0} (l : Layout V) (bs : List ℕ) (r : Option (V × ℕ)) : Type 0 where
  -- what is written reads back, whatever follows
  pub back : (v : V) (rest : List ℕ) → l.fits v ≡ true → bs ≡ bytes_of l v ++ rest → r ≡ Some (v, length (bytes_of l v))
  -- what is accepted is the only writing of its content
  pub only : (v : V) (n : ℕ) → r ≡ Some (v, n) → (l.fits v ≡ true) × (n ≡ length (bytes_of l v)) × (take n bs ≡ bytes_of l v)
