-- A line in an image: its number, then its payload, which its kind of line writes and reads.
--
--   numbered n x     the line x with the number n
--   line_body f v    line number (2 bytes), payload (as wide as the kind of line says)
--   line_of o p      the line p with the number o, if there are both
--   line_in f bs     the line with its number whose body is bs, if there is one
--   line_fits f v    whether its number fits its bytes and the line keeps its rule
--   line_record f    the records of lines of the kind f
use Rattle.std.specs.Prelude.{ℕ, ◌^◌, Bool, ◌&&◌, List, ◌++◌, take, drop, Some, None, Option, nat_lt}
use Rattle.lines.specs.Bytes.{le, whole}
use Rattle.lines.specs.Coding.{Coding}
use Rattle.records.specs.declared.image_lines.ImageLine.{ImageLine}
use Rattle.records.specs.Framing.{Layout}

abbrev pub numbered : {L : Type 0} → ℕ → L → ImageLine L
numbered n x = record { number = n; line = x }

abbrev pub line_body : {L : Type 0} → Coding L → ImageLine L → List ℕ
line_body f v = le 2 v.number ++ f.payload v.line

abbrev pub line_of : {L : Type 0} → Option ℕ → Option L → Option (ImageLine L)
line_of None line = None
line_of (Some n) None = None
line_of (Some n) (Some x) = Some (numbered n x)

abbrev pub line_in : {L : Type 0} → Coding L → List ℕ → Option (ImageLine L)
line_in f bs = line_of (whole 2 (take 2 bs)) (f.reading (drop 2 bs))

abbrev pub line_fits : {L : Type 0} → Coding L → ImageLine L → Bool
line_fits f v = nat_lt v.number (2 ^ 16) && f.keeps v.line

abbrev pub line_record : {L : Type 0} → Coding L → Layout (ImageLine L)
line_record f = record {
  kind = 2;
  fits = line_fits f;
  body = line_body f;
  reading = line_in f;
}
