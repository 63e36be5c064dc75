-- What an image says, and its one writing.
--
--   Content L        what an image says: whether it is full or partial, how many lines the book has (n), the point that it goes on
--                    from (0 if it is full), its own point, and lines with their numbers
--   head_of f c      the head of the image that says c, for lines of the kind f
--   records f c      its records: the head, the lines, and the end with how many lines there are
--   flat rs          records one directly behind the other
--   lines_bytes f vs the records of the lines vs, one behind the other
--   writing f c      the image as bytes
--   Rising low n vs  the line numbers of vs rise, the first is not below low, and all are below n
--   ByMode m c       what a full and what a partial image owe
--   LawfulImage f c  what makes an image lawful: see its fields
use Rattle.std.specs.Prelude.{◌≡◌, ℕ, suc, ◌^◌, ◌<◌, ◌≤◌, true, List, [], ◌∷◌, ◌++◌, map, length}
use Rattle.std.specs.List.{flat_map, AllByRecursion}
use Rattle.lines.specs.Coding.{Coding}
use Rattle.records.specs.declared.heads.Head.{Head}
use Rattle.records.specs.declared.heads.Mode.{Mode}
use Rattle.records.specs.declared.heads.Mode.TheVariants.{Full, Partial}
use Rattle.records.specs.declared.image_lines.ImageLine.{ImageLine}
use Rattle.records.specs.Framing.{bytes_of}
use Rattle.records.specs.Heads.{head_record}
use Rattle.records.specs.ImageLines.{line_record}
use Rattle.records.specs.Numbers.{end_record}

pub record Content (L : Type 0) : Type 0 where
  pub mode : Mode
  pub n : ℕ
  pub from : ℕ
  pub point : ℕ
  pub lines : List (ImageLine L)

abbrev pub head_of : {L : Type 0} → Coding L → Content L → Head
head_of f c = record { code = f.code; mode = c.mode; n = c.n; from = c.from; point = c.point }

abbrev pub records : {L : Type 0} → Coding L → Content L → List (List ℕ)
records f c =
    bytes_of head_record (head_of f c)
    ∷ (map (bytes_of (line_record f)) c.lines ++ bytes_of end_record (length c.lines) ∷ [])

abbrev pub flat : List (List ℕ) → List ℕ
flat rs = flat_map (λ r. r) rs

abbrev pub lines_bytes : {L : Type 0} → Coding L → List (ImageLine L) → List ℕ
lines_bytes f vs = flat_map (bytes_of (line_record f)) vs

unfoldable pub writing : {L : Type 0} → Coding L → Content L → List ℕ
writing f c = flat (records f c)

abbrev pub Rising : {L : Type 0} → ℕ → ℕ → List (ImageLine L) → Type 0
Rising low n [] = Unit {0}
Rising low n (v ∷ vs) = (low ≤ v.number) × (v.number < n) × Rising (suc v.number) n vs

abbrev pub ByMode : {L : Type 0} → Mode → Content L → Type 0
ByMode Full c = (c.from ≡ 0) × (length c.lines ≡ c.n)
ByMode Partial c = c.from < c.point

pub record LawfulImage {L : Type 0} (f : Coding L) (c : Content L) : Type 0 where
  -- a book has 1,024 lines at most
  pub few : c.n ≤ 1024
  -- points count from 1, and fit four bytes
  pub passed : 1 ≤ c.point
  pub fits : c.point < 2 ^ 32
  -- a full image is from 0 and has all n lines; a partial one is from an earlier point
  pub by_mode : ByMode c.mode c
  -- line numbers rise and are below n
  pub rising : Rising 0 c.n c.lines
  -- each line keeps its kind's rule, so that its payload is readable
  pub kept : AllByRecursion (λ v. f.keeps v.line ≡ true) c.lines
