-- What a reader keeps of an image, and what it hands out.
--
--   Outline          an image by its bytes, its head and how many lines it has
--   outlined f bs r  the outline of the image bs whose reading is r
--   seen r           an answer of the reader, by the values behind its references
--   line_offset f k  where the k-th line record stands, from 0: behind a head of 16 bytes, each is 6 bytes longer than a payload
--   Handed           a line's number, the offset of its payload in the image, and the payload
--   handing f k v    what is handed out of the k-th line v
--   WhereLawful f image P   if the image is the writing of lawful content with just its lines, P holds of that content
--   part_of ..       what is handed out of the k-th of count lines of the image bs, if it is there
--   line_in_part ..  the line with the number and the payload of a part, if there is one
use Rattle.std.specs.Prelude.{◌≡◌, ℕ, ◌+◌, ◌*◌, cond, ◌&&◌, List, length, take, drop, Some, None, Ok, Err, Option, Result, nat_le, nat_lt}
use Rattle.lines.specs.Bytes.{number}
use Rattle.lines.specs.Coding.{Coding}
use Rattle.records.specs.declared.heads.Head.{Head}
use Rattle.records.specs.declared.image_lines.ImageLine.{ImageLine}
use Rattle.records.specs.ImageLines.{line_of}
use Rattle.images.specs.declared.faults.Unlawful.{Unlawful}
use Rattle.images.specs.declared.reader.Image.{Image}
use Rattle.images.specs.declared.reader.Part.{Part}
use Rattle.images.specs.Images.{Content, LawfulImage, writing, head_of}

pub record Outline : Type 0 where
  pub bytes : List ℕ
  pub head : Head
  pub count : ℕ

abbrev pub outlined : {L : Type 0} → Coding L → List ℕ → Result (Content L) Unlawful → Result Outline Unlawful
outlined f bs (Ok c) = Ok (record { bytes = bs; head = head_of f c; count = length c.lines })
outlined f bs (Err u) = Err u

abbrev pub seen : Result Image Unlawful → Result Outline Unlawful
seen (Ok image) = Ok (record { bytes = image.bytes.now; head = image.head; count = image.count })
seen (Err u) = Err u

pub record Handed : Type 0 where
  pub number : ℕ
  pub offset : ℕ
  pub payload : List ℕ

abbrev pub handed : Part → Handed
handed p = record { number = p.number; offset = p.offset; payload = p.payload.now }

abbrev pub line_offset : {L : Type 0} → Coding L → ℕ → ℕ
line_offset f k = 16 + k * (6 + f.width)

abbrev pub handing : {L : Type 0} → Coding L → ℕ → ImageLine L → Handed
handing f k v = record { number = v.number; offset = line_offset f k + 6; payload = f.payload v.line }

abbrev pub WhereLawful : {L : Type 0} → Coding L → Image → (Content L → Type 0) → Type 0
WhereLawful {L} f image P = (c : Content L) → LawfulImage f c → image.bytes.now ≡ writing f c → image.count ≡ length c.lines → P c

abbrev pub part_of : {L : Type 0} → Coding L → List ℕ → ℕ → ℕ → Option Handed
part_of f bs count k =
    let at = line_offset f k in
    cond (nat_lt k count && nat_le (at + (6 + f.width)) (length bs))
    (Some (record { number = number (take 2 (drop (at + 4) bs)); offset = at + 6; payload = take f.width (drop (at + 6) bs) }))
    None

abbrev pub line_in_part : {L : Type 0} → Coding L → Option Handed → Option (ImageLine L)
line_in_part f None = None
line_in_part f (Some p) = line_of (Some p.number) (f.reading p.payload)
