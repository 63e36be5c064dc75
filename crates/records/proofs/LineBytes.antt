-- The body of a line in an image: it reads back, and bytes that read as a line are its body.
use Rattle.std.proofs.Common.{◌≡◌, ℕ, ◌+◌, ◌^◌, ◌<◌, true, ltb, List, length, take, drop, Some, None, Option, ap, arith}
use Rattle.std.proofs.ByRecursion.{All-take}
use Rattle.std.proofs.lemmas.List.{length-append, take_at, drop_at, take-append-drop}
use Rattle.std.proofs.lemmas.Bool.{and_parts, and_from, ltb-true, lt-ltb}
use Rattle.lines.specs.Bytes.{Bytes, le, whole}
use Rattle.lines.specs.Coding.{Coding, Lawful}
use Rattle.lines.proofs.LittleEndian.{length-le, bytes_le}
use Rattle.records.specs.declared.image_lines.ImageLine.{ImageLine}
use Rattle.records.specs.Framing.{LawfulLayout}
use Rattle.records.specs.ImageLines.{line_body, line_of, line_in, line_fits, line_record}
use Rattle.records.proofs.Framed.{bytes-append}
use Rattle.records.proofs.OneNumber.{whole_le, whole_only}

-- what a line with its number was made of
line_parts : {L : Type 0} (o : Option ℕ) (p : Option L) (v : ImageLine L) → line_of o p ≡ Some v → (o ≡ Some v.number) × (p ≡ Some v.line)
line_parts None p v h = absurd (cc)
line_parts (Some n) None v h = absurd (cc)
line_parts (Some n) (Some x) v h =
    let e : record { number = n; line = x } ≡ v = cc in
    (ap (λ u. Some u.number) e, ap (λ u. Some u.line) e)

module _ {L : Type 0} (f : Coding L) where
  module _ (lawful : Lawful f) where
    pub length_line : (v : ImageLine L) → length (line_body f v) ≡ 2 + f.width
    length_line v = rw (length-append, length-le 2 v.number, lawful.long v.line)

    line_back : (v : ImageLine L) → line_fits f v ≡ true → line_in f (line_body f v) ≡ Some v
    line_back v fits =
        let p = and_parts (ltb v.number (2 ^ 16)) (f.keeps v.line) fits in
        let front = take_at (le 2 v.number) (f.payload v.line) 2 (length-le 2 v.number) in
        let back = drop_at (le 2 v.number) (f.payload v.line) 2 (length-le 2 v.number) in
        rw (front, back, whole_le 2 v.number (ltb-true v.number (2 ^ 16) p.0), lawful.reads_back v.line p.1)

    line_only : (bs : List ℕ) (v : ImageLine L) → Bytes bs → line_in f bs ≡ Some v → (line_fits f v ≡ true) × (line_body f v ≡ bs)
    line_only bs v typed h =
        let parts = line_parts (whole 2 (take 2 bs)) (f.reading (drop 2 bs)) v h in
        let number = whole_only 2 (take 2 bs) v.number (All-take (λ b. b < 256) 2 bs typed) parts.0 in
        let line = lawful.reads_only (drop 2 bs) v.line parts.1 in
        (and_from (ltb v.number (2 ^ 16)) (f.keeps v.line) (lt-ltb v.number (2 ^ 16) number.0) line.0, rw (number.1, line.1) (take-append-drop 2 bs))

    pub line_lawful : LawfulLayout (line_record f)
    line_lawful = record {
      kind_small = omega arith;
      short = λ v _. omega (arith, length_line v, lawful.width_most);
      bytes = λ v. bytes-append (le 2 v.number) (f.payload v.line) (bytes_le 2 v.number) (lawful.bytes v.line);
      reads_back = line_back;
      reads_only = line_only;
    }
