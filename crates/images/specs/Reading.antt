-- How an image is read: its records in order, up to the first that no lawful image has there.
--
--   head_allowed f h     whether a lawful image of the kind f can begin with the head h
--   in_turn h low i      whether the line of number i can come next; low is the number behind the last one
--   complete h count     whether an image with the head h can end after count lines
--   lines_from ..        the lines from the offset at on, where bs is what the image holds there, and count lines came before;
--                        at most k of them, since no image has more than n
--   reading f bs         what the image bs says; or the offset of the first record that no lawful image has after those before
--                        it, or of a missing one
--   Front f bs o         bs begins, up to the offset o, with some of the first records of a lawful image
--   OneImage f bs        what the reading of bs is, in words: see its fields
use Rattle.std.specs.Prelude.{◌≡◌, ℕ, zero, suc, ◌+◌, ◌≤◌, Bool, true, cond, ◌&&◌, List, [], ◌∷◌, ◌++◌, length, take, drop, Some, None, Ok, Err, Option, Result, ◌==◌, nat_le, nat_lt}
use Rattle.lines.specs.Coding.{Coding}
use Rattle.records.specs.declared.heads.Head.{Head}
use Rattle.records.specs.declared.heads.Mode.{Mode}
use Rattle.records.specs.declared.heads.Mode.TheVariants.{Full, Partial}
use Rattle.records.specs.declared.image_lines.ImageLine.{ImageLine}
use Rattle.records.specs.Framing.{read}
use Rattle.records.specs.Heads.{head_record}
use Rattle.records.specs.ImageLines.{line_record}
use Rattle.records.specs.Numbers.{end_record}
use Rattle.images.specs.declared.faults.Unlawful.{Unlawful}
use Rattle.images.specs.Images.{Content, LawfulImage, records, flat, writing}

abbrev pub unlawful : ℕ → Unlawful
unlawful at = record { offset = at }

abbrev pub from_allowed : Mode → Head → Bool
from_allowed Full h = h.from == 0
from_allowed Partial h = nat_lt h.from h.point

abbrev pub head_allowed : {L : Type 0} → Coding L → Head → Bool
head_allowed f h = h.code == f.code && (nat_le h.n 1024 && (nat_le 1 h.point && from_allowed h.mode h))

-- in a full image the very next one
abbrev pub follows : Mode → ℕ → ℕ → Bool
follows Full low i = i == low
follows Partial low i = nat_le low i

abbrev pub in_turn : Head → ℕ → ℕ → Bool
in_turn h low i = nat_lt i h.n && follows h.mode low i

abbrev pub all_there : Mode → ℕ → ℕ → Bool
all_there Full n count = count == n
all_there Partial n count = true

abbrev pub complete : Head → ℕ → Bool
complete h count = all_there h.mode h.n count

-- what an end record means where count lines came before and size bytes are left
abbrev pub ended : Head → ℕ → ℕ → ℕ → Option (ℕ × ℕ) → Result (Unit {0}) Unlawful
ended h count at size None = Err (unlawful at)
ended h count at size (Some p) =
    cond (p.0 == count && complete h count) (cond (p.1 == size) (Ok tt) (Err (unlawful (at + p.1)))) (Err (unlawful at))

abbrev pub no_lines : {L : Type 0} → Result (Unit {0}) Unlawful → Result (List (ImageLine L)) Unlawful
no_lines (Ok t) = Ok []
no_lines (Err u) = Err u

abbrev pub end_of : Head → ℕ → ℕ → List ℕ → Result (Unit {0}) Unlawful
end_of h count at bs = ended h count at (length bs) (read end_record bs)

abbrev pub before : {L : Type 0} → ImageLine L → Result (List (ImageLine L)) Unlawful → Result (List (ImageLine L)) Unlawful
before v (Ok vs) = Ok (v ∷ vs)
before v (Err u) = Err u

-- a line in its turn goes before those behind it; where there is none, the end is asked for
abbrev pub next_line : {L : Type 0} → Head → ℕ → ℕ → (ImageLine L → ℕ → Result (List (ImageLine L)) Unlawful) → Result (List (ImageLine L)) Unlawful
    → Option (ImageLine L × ℕ) → Result (List (ImageLine L)) Unlawful
next_line h low at behind end None = end
next_line h low at behind end (Some p) = cond (in_turn h low p.0.number) (before p.0 (behind p.0 p.1)) (Err (unlawful at))

abbrev pub lines_from : {L : Type 0} → Coding L → Head → ℕ → ℕ → ℕ → ℕ → List ℕ → Result (List (ImageLine L)) Unlawful
lines_from f h zero low count at bs = no_lines (end_of h count at bs)
lines_from f h (suc k) low count at bs =
    next_line h low at (λ v len. lines_from f h k (suc v.number) (suc count) (at + len) (drop len bs)) (no_lines (end_of h count at bs)) (read (line_record f) bs)

-- how many lines there are
abbrev pub counted : {L : Type 0} → Result (List (ImageLine L)) Unlawful → Result ℕ Unlawful
counted (Ok vs) = Ok (length vs)
counted (Err u) = Err u

abbrev pub with_head : {L : Type 0} → Head → Result (List (ImageLine L)) Unlawful → Result (Content L) Unlawful
with_head h (Ok vs) = Ok (record { mode = h.mode; n = h.n; from = h.from; point = h.point; lines = vs })
with_head h (Err u) = Err u

abbrev pub behind_head : {L : Type 0} → Coding L → List ℕ → Option (Head × ℕ) → Result (Content L) Unlawful
behind_head f bs None = Err (unlawful 0)
behind_head f bs (Some p) =
    cond (head_allowed f p.0) (with_head p.0 (lines_from f p.0 p.0.n 0 0 p.1 (drop p.1 bs))) (Err (unlawful 0))

unfoldable pub reading : {L : Type 0} → Coding L → List ℕ → Result (Content L) Unlawful
reading f bs = behind_head f bs (read head_record bs)

pub record Front {L : Type 0} (f : Coding L) (bs : List ℕ) (o : ℕ) : Type 0 where
  pub content : Content L
  pub lawful : LawfulImage f content
  pub count : ℕ
  pub rest : List ℕ
  pub front : bs ≡ flat (take count (records f content)) ++ rest
  pub long : length (flat (take count (records f content))) ≡ o

pub record OneImage {L : Type 0} (f : Coding L) (bs : List ℕ) : Type 0 where
  -- what is written reads back
  pub back : (c : Content L) → LawfulImage f c → bs ≡ writing f c → reading f bs ≡ Ok c
  -- what is accepted is lawful, and is the only writing of its content
  pub only : (c : Content L) → reading f bs ≡ Ok c → LawfulImage f c × (bs ≡ writing f c)
  -- what is refused begins, up to the offset that is told, with the first records of a lawful image (of a kind that has a line at all)
  pub front : (o : ℕ) → reading f bs ≡ Err (unlawful o) → (x : L) → f.keeps x ≡ true → Front f bs o
  -- and with no more records than these of any lawful image
  pub most : (o : ℕ) → reading f bs ≡ Err (unlawful o) → (c : Content L) (k : ℕ) (rest : List ℕ) → LawfulImage f c
      → bs ≡ flat (take k (records f c)) ++ rest → length (flat (take k (records f c))) ≤ o
