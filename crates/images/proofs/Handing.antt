-- The parts that a reader hands out: where they stand, and what they hold in a lawful image.
use Rattle.std.proofs.Common.{◌≡◌, ℕ, zero, suc, ◌+◌, ◌-◌, ◌*◌, ◌<◌, ◌≤◌, true, ltb, leb, List, [], ◌∷◌, ◌++◌, length, take, drop, Some, None, Option, sym, refl, ap, ◌∙◌, suc-mul, zero-mul, arith}
use Rattle.std.proofs.lemmas.List.{append_assoc, drop_at, drop-drop, drop-take, length-append, take_at, take_rest, take-take}
use Rattle.std.proofs.lemmas.Bool.{and_from, and_right, le-leb, le-ltb, lt-leb, lt-ltb}
use Rattle.std.proofs.lemmas.Option.{slice_get_within}
use Rattle.std.specs.Option.{option_map}
use Rattle.std.specs.List.{AllByRecursion, slice_get}
use Rattle.lines.specs.Bytes.{le, number, whole}
use Rattle.lines.specs.Coding.{Coding, Lawful}
use Rattle.lines.proofs.LittleEndian.{length-le, number-le, whole_some}
use Rattle.records.specs.declared.image_lines.ImageLine.{ImageLine}
use Rattle.records.specs.Framing.{framed, bytes_of}
use Rattle.records.specs.Heads.{head_record}
use Rattle.records.specs.ImageLines.{line_record}
use Rattle.records.specs.Numbers.{end_record}
use Rattle.records.proofs.Framed.{length-framed}
use Rattle.records.proofs.HeadBytes.{length-head}
use Rattle.records.proofs.LineBytes.{length_line}
use Rattle.images.specs.Images.{Content, head_of, writing, Rising, LawfulImage, lines_bytes}
use Rattle.images.specs.Parts.{Handed, handing, line_offset, part_of, line_in_part}
use Rattle.images.proofs.Fronts.{writing-parts}

-- a part of the line record of len bytes at the offset at: the number, and the payload
module _ (bs : List ℕ) (at w : ℕ) where
  abbrev pub line_slice : List ℕ
  line_slice = take (at + (6 + w) - at) (drop at bs)

  slice_is : line_slice ≡ take (6 + w) (drop at bs)
  slice_is = let size : at + (6 + w) - at ≡ 6 + w = omega arith in rw size

  pub number_slice : take 2 (drop 4 line_slice) ≡ take 2 (drop (at + 4) bs)
  number_slice =
      let parts : 6 + w ≡ 4 + (2 + w) = omega arith in
      rw (slice_is, parts, drop-take 4 (2 + w) (drop at bs), take-take 2 (2 + w) (drop 4 (drop at bs)) (omega arith), drop-drop 4 at bs)

  pub payload_slice : take (length line_slice - 6) (drop 6 line_slice) ≡ take w (drop (at + 6) bs)
  payload_slice = rw (take_rest line_slice 6, slice_is, drop-take 6 w (drop at bs), drop-drop 6 at bs)

pub nth_none : {X : Type 0} (xs : List X) (k : ℕ) → slice_get xs k ≡ None → length xs ≤ k
nth_none [] k e = omega arith
nth_none (x ∷ xs) zero e = absurd (cc)
nth_none (x ∷ xs) (suc k) e = omega (arith, nth_none xs k e)

module _ {L : Type 0} (f : Coding L) where
  pub part_found : (bs s : List ℕ) (count k w n : ℕ) → w ≡ f.width → k < count → (16 + k * (6 + w)) + (6 + w) ≤ length bs → s ≡ line_slice bs (16 + k * (6 + w)) w
      → Some n ≡ whole 2 (take 2 (drop 4 s)) → Some (record { number = n; offset = (16 + k * (6 + w)) + 6; payload = take (length s - 6) (drop 6 s) }) ≡ part_of f bs count k
  part_found bs s count k w n wide low room is e =
      let at = 16 + k * (6 + w) in
      let read : n ≡ number (take 2 (drop (at + 4) bs)) = sym (whole_some 2 (take 2 (drop 4 (line_slice bs at w))) n (rw is at e)) ∙ ap number (number_slice bs at w) in
      let tests = and_from (ltb k count) (leb (at + (6 + w)) (length bs)) (lt-ltb k count low) (le-leb (at + (6 + w)) (length bs) room) in
      rw (← wide, tests, read, is, payload_slice bs at w)

  pub part_cut : (bs : List ℕ) (count k w : ℕ) → w ≡ f.width → length bs < (16 + k * (6 + w)) + (6 + w) → None ≡ part_of f bs count k
  part_cut bs count k w wide short =
      let at = 16 + k * (6 + w) in
      rw (← wide, and_right (ltb k count) (leb (at + (6 + w)) (length bs)) (lt-leb (at + (6 + w)) (length bs) short))

-- what stands behind the frame of a record
behind_frame : (kind : ℕ) (body rest : List ℕ) → drop 4 (framed kind body ++ rest) ≡ body ++ rest
unfolding framed
behind_frame kind body rest =
    let n = 4 + length body in
    let four : length (le 2 n ++ le 2 kind) ≡ 4 = simp (length-append, length-le) in
    let parts : framed kind body ++ rest ≡ (le 2 n ++ le 2 kind) ++ (body ++ rest) = simp append_assoc in
    rw (parts, drop_at (le 2 n ++ le 2 kind) (body ++ rest) 4 four)

module _ {L : Type 0} (f : Coding L) (lawful : Lawful f) where
  pub line_long : (v : ImageLine L) → length (bytes_of (line_record f) v) ≡ 6 + f.width
  line_long v = length-framed 2 ((line_record f).body v) ∙ rw (length_line f lawful v) (omega arith)

  -- the number and the payload of a line record
  line_fields : (v : ImageLine L) (rest : List ℕ)
      → (take 2 (drop 4 (bytes_of (line_record f) v ++ rest)) ≡ le 2 v.number) × (take f.width (drop 6 (bytes_of (line_record f) v ++ rest)) ≡ f.payload v.line)
  line_fields v rest =
      let one = bytes_of (line_record f) v in
      let x = le 2 v.number in
      let y = f.payload v.line in
      let four : drop 4 (one ++ rest) ≡ x ++ (y ++ rest) = behind_frame 2 (x ++ y) rest ∙ append_assoc x y rest in
      let six : drop 6 (one ++ rest) ≡ y ++ rest = sym (drop-drop 2 4 (one ++ rest)) ∙ rw four (drop_at x (y ++ rest) 2 (length-le 2 v.number)) in
      (rw four (take_at x (y ++ rest) 2 (length-le 2 v.number)), rw six (take_at y rest f.width (lawful.long v.line)))

  -- line records are all of one length, so that the k-th stands behind k of them
  line_at : (vs : List (ImageLine L)) (k : ℕ) (v : ImageLine L) (end : List ℕ) → slice_get vs k ≡ Some v
      → (rest : List ℕ) × (drop (k * (6 + f.width)) (lines_bytes f vs ++ end) ≡ bytes_of (line_record f) v ++ rest) × (k * (6 + f.width) + (6 + f.width) ≤ length (lines_bytes f vs))
  line_at [] k v end e = absurd (cc)
  line_at (x ∷ xs) zero v end e =
      let same : x ≡ v = cc in
      let one = bytes_of (line_record f) x in (
        lines_bytes f xs ++ end,
        rw (zero-mul (6 + f.width), append_assoc one (lines_bytes f xs) end, same),
        rw (zero-mul (6 + f.width)) (omega (arith, length-append one (lines_bytes f xs), line_long x)),
      )
  line_at (x ∷ xs) (suc k) v end e =
      let one = bytes_of (line_record f) x in
      let s = 6 + f.width in
      let next = line_at xs k v end e in
      let more : suc k * s ≡ s + k * s = omega (arith, suc-mul k s) in (
        next.0,
        rw (more, ← drop-drop (k * s) s ((one ++ lines_bytes f xs) ++ end), append_assoc one (lines_bytes f xs) end, drop_at one (lines_bytes f xs ++ end) s (line_long x)) next.1,
        omega (arith, next.2, length-append one (lines_bytes f xs), line_long x),
      )

  rising_nth : (low n : ℕ) (vs : List (ImageLine L)) (k : ℕ) (v : ImageLine L) → Rising low n vs → slice_get vs k ≡ Some v → v.number < n
  rising_nth low n [] k v r e = absurd (cc)
  rising_nth low n (x ∷ xs) zero v r e = let same : x ≡ v = cc in rw same at r.1
  rising_nth low n (x ∷ xs) (suc k) v r e = rising_nth (suc x.number) n xs k v r.2 e

  module _ (c : Content L) (image : LawfulImage f c) (k : ℕ) where
    part_there : (v : ImageLine L) → slice_get c.lines k ≡ Some v → part_of f (writing f c) (length c.lines) k ≡ Some (handing f k v)
    part_there v e =
        let bs = writing f c in
        let head = bytes_of head_record (head_of f c) in
        let vs = lines_bytes f c.lines in
        let end = bytes_of end_record (length c.lines) in
        let at = line_offset f k in
        let s = 6 + f.width in
        let low = rising_nth 0 c.n c.lines k v image.rising e in
        let within = slice_get_within c.lines k v e in
        let few = image.few in
        let line = line_at c.lines k v end e in
        let sixteen : length head ≡ 16 = length-framed 1 (head_record.body (head_of f c)) ∙ rw (length-head (head_of f c)) in
        let there : drop at bs ≡ bytes_of (line_record f) v ++ line.0 = rw (writing-parts f c, ← drop-drop (k * s) 16 (head ++ (vs ++ end)), drop_at head (vs ++ end) 16 sixteen) line.1 in
        let fields = line_fields v line.0 in
        let first : number (take 2 (drop (at + 4) bs)) ≡ v.number = rw (← drop-drop 4 at bs, there, fields.0) (number-le 2 v.number (omega arith)) in
        let second : take f.width (drop (at + 6) bs) ≡ f.payload v.line = rw (← drop-drop 6 at bs, there) fields.1 in
        let room : at + s ≤ length bs = rw (writing-parts f c) (omega (arith, length-append head (vs ++ end), length-append vs end, line.2)) in
        let tests = and_from (ltb k (length c.lines)) (leb (at + s) (length bs)) (lt-ltb k (length c.lines) within) (le-leb (at + s) (length bs) room) in
        rw (tests, first, second)

    part-lawful : (o : Option (ImageLine L)) → slice_get c.lines k ≡ o → part_of f (writing f c) (length c.lines) k ≡ option_map (handing f k) o
    part-lawful (Some v) e = part_there v e
    part-lawful None e = rw (le-ltb k (length c.lines) (nth_none c.lines k e))

  kept_nth : (vs : List (ImageLine L)) (k : ℕ) (v : ImageLine L) → AllByRecursion (λ x. f.keeps x.line ≡ true) vs → slice_get vs k ≡ Some v → f.keeps v.line ≡ true
  kept_nth [] k v h e = absurd (cc)
  kept_nth (x ∷ xs) zero v h e = let same : x ≡ v = cc in rw same at h.0
  kept_nth (x ∷ xs) (suc k) v h e = kept_nth xs k v h.1 e

  -- a part of a line that keeps its rule reads as that line
  part_line : (vs : List (ImageLine L)) (k : ℕ) → AllByRecursion (λ v. f.keeps v.line ≡ true) vs → (o : Option (ImageLine L)) → slice_get vs k ≡ o → line_in_part f (option_map (handing f k) o) ≡ o
  part_line vs k kept None e = refl
  part_line vs k kept (Some v) e = rw (lawful.reads_back v.line (kept_nth vs k v kept e))

  module _ (bs : List ℕ) (count k : ℕ) where
    -- what is handed out of a lawful image
    pub hands_part : (x : Option Handed) → x ≡ part_of f bs count k → (c : Content L) → LawfulImage f c → bs ≡ writing f c → count ≡ length c.lines → x ≡ option_map (handing f k) (slice_get c.lines k)
    hands_part x found c image is all = rw (found, all, is) (part-lawful c image k (slice_get c.lines k) refl)

    pub hands_line : (x : Option (ImageLine L)) → x ≡ line_in_part f (part_of f bs count k) → (c : Content L) → LawfulImage f c → bs ≡ writing f c → count ≡ length c.lines → x ≡ slice_get c.lines k
    hands_line x found c image is all =
        rw (found, hands_part (part_of f bs count k) refl c image is all) (part_line c.lines k image.kept (slice_get c.lines k) refl)
