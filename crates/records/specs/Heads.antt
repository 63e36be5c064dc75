-- The head of an image.
--
--   mode_code m      the code of a mode
--   mode_of b        the mode of that code, if there is one
--   mode_or_not b    that mode, or the code that is none's
--   head_body h      type code (1 byte), mode (1), number of lines (2), from (4), point (4)
--   head_with bs o   the head that bs holds, where its mode is o
--   head_in bs       the head whose body is bs, if there is one
--   head_fits h      whether its numbers fit their bytes
--   head_record      the records of heads
use Rattle.std.specs.Prelude.{ℕ, ◌^◌, Bool, cond, ◌&&◌, List, ◌++◌, length, Some, None, Option, Result, ◌==◌, nat_lt}
use Rattle.std.specs.Option.{ok_or}
use Rattle.lines.specs.Bytes.{le}
use Rattle.records.specs.declared.heads.Head.{Head}
use Rattle.records.specs.declared.heads.Mode.{Mode}
use Rattle.records.specs.declared.heads.UnknownMode.{UnknownMode}
use Rattle.records.specs.declared.heads.Mode.TheVariants.{Full, Partial}
use Rattle.records.specs.Framing.{Layout}
use Rattle.records.specs.Numbers.{field}

abbrev pub mode_code : Mode → ℕ
mode_code Full = 0
mode_code Partial = 1

abbrev pub mode_of : ℕ → Option Mode
mode_of b = cond (b == 0) (Some Full) (cond (b == 1) (Some Partial) None)

abbrev pub mode_or_not : ℕ → Result Mode UnknownMode
mode_or_not b = ok_or (mode_of b) (record { code = b })

unfoldable pub head_body : Head → List ℕ
head_body h = le 1 h.code ++ (le 1 (mode_code h.mode) ++ (le 2 h.n ++ (le 4 h.from ++ le 4 h.point)))

abbrev pub head_with : List ℕ → Option Mode → Option Head
head_with bs None = None
head_with bs (Some mode) = Some (record { code = field 0 1 bs; mode = mode; n = field 2 2 bs; from = field 4 4 bs; point = field 8 4 bs })

unfoldable pub head_in : List ℕ → Option Head
head_in bs = cond (length bs == 12) (head_with bs (mode_of (field 1 1 bs))) None

abbrev pub head_fits : Head → Bool
head_fits h = nat_lt h.code 256 && (nat_lt h.n (2 ^ 16) && (nat_lt h.from (2 ^ 32) && nat_lt h.point (2 ^ 32)))

abbrev pub head_record : Layout Head
head_record = record {
  kind = 1;
  fits = head_fits;
  body = head_body;
  reading = head_in;
}
