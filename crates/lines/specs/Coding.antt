-- What a kind of line is to whoever stores it: a code, and a payload with one reading.
--
--   Coding L     the code of the kind, the width of a payload in bytes, the rule that a line keeps,
--                the payload of a line, and the line that bytes read as, if any
--   read_by d k p bs   the line that bs decodes to by d, if it keeps the rule k and its payload by p is bs
--   Lawful f     what every kind of line owes: see its fields
use Rattle.std.specs.Prelude.{◌≡◌, ℕ, ◌<◌, ◌≤◌, Bool, true, cond, ◌&&◌, List, length, Some, None, Option}
use Rattle.lines.specs.Bytes.{Bytes, same}

pub record Coding (L : Type 0) : Type 0 where
  pub code : ℕ
  pub width : ℕ
  pub keeps : L → Bool
  pub payload : L → List ℕ
  pub reading : List ℕ → Option L

abbrev pub read_by : {L : Type 0} → (List ℕ → L) → (L → Bool) → (L → List ℕ) → List ℕ → Option L
read_by decode keeps payload bs = cond (keeps (decode bs) && same (payload (decode bs)) bs) (Some (decode bs)) None

pub record Lawful {L : Type 0} (f : Coding L) : Type 0 where
  -- the code is a byte
  pub code_byte : f.code < 256
  -- a payload has 1 to 26 bytes
  pub width_least : 1 ≤ f.width
  pub width_most : f.width ≤ 26
  -- every payload is that wide, and is bytes
  pub long : (x : L) → length (f.payload x) ≡ f.width
  pub bytes : (x : L) → Bytes (f.payload x)
  -- a line that keeps its rule reads back from its payload
  pub reads_back : (x : L) → f.keeps x ≡ true → f.reading (f.payload x) ≡ Some x
  -- bytes read as a line only if that line keeps its rule and is written so
  pub reads_only : (bs : List ℕ) (x : L) → f.reading bs ≡ Some x → (f.keeps x ≡ true) × (f.payload x ≡ bs)
