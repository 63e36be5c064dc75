-- The join of two lawful images: its lines, that it is lawful, and how long it is.
use Rattle.std.proofs.Common.{◌≡◌, ℕ, zero, suc, ◌+◌, ◌*◌, ◌<◌, true, ◌&&◌, eqb, List, [], ◌∷◌, ◌++◌, length, Some, None, Option, sym, refl, ap, ◌∙◌, inl, inr, suc-mul, zero-mul, arith}
use Rattle.std.proofs.lemmas.List.{length-append}
use Rattle.std.proofs.lemmas.Bool.{and_parts, cases_Bool, eqb-true}
use Rattle.std.specs.List.{AllByRecursion}
use Rattle.lines.specs.Bytes.{Bytes}
use Rattle.lines.specs.Coding.{Coding, Lawful}
use Rattle.records.specs.declared.heads.Mode.{Mode}
use Rattle.records.specs.declared.heads.Mode.TheVariants.{Full, Partial}
use Rattle.records.specs.declared.image_lines.ImageLine.{ImageLine}
use Rattle.records.specs.Framing.{bytes_of}
use Rattle.records.specs.Heads.{head_record}
use Rattle.records.specs.ImageLines.{line_record}
use Rattle.records.specs.Numbers.{end_record}
use Rattle.records.proofs.Framed.{bytes-append, bytes-framed, length-framed}
use Rattle.records.proofs.HeadBytes.{head-lawful, length-head}
use Rattle.records.proofs.LineBytes.{line_lawful}
use Rattle.records.proofs.OneNumber.{end_lawful}
use Rattle.images.specs.Images.{Content, head_of, writing, Rising, ByMode, LawfulImage, lines_bytes}
use Rattle.joins.specs.Joining.{line_of, newer, and_then, listed, join, partial, joins}
use Rattle.images.proofs.Accepted.{length_end}
use Rattle.images.proofs.Fronts.{rising_few, writing-parts}
use Rattle.images.proofs.Handing.{line_long}
use Rattle.joins.proofs.Listing.{overlay_listed, listed_self, listed_more, rising-listed}
use Rattle.joins.specs.Merging.{overlay}

-- what makes two images join
pub joins-parts : {L : Type 0} (a b : Content L) → joins a b ≡ true → (a.n ≡ b.n) × (partial b.mode ≡ true) × (b.from ≡ a.point)
joins-parts a b h =
    let p = and_parts (eqb a.n b.n) (partial b.mode && eqb b.from a.point) h in
    let q = and_parts (partial b.mode) (eqb b.from a.point) p.1 in
    (eqb-true a.n b.n p.0, q.0, eqb-true b.from a.point q.1)

module _ {L : Type 0} (f : Coding L) where
  -- a line of an image keeps its rule
  kept_line : (vs : List (ImageLine L)) (i : ℕ) (x : L) → AllByRecursion (λ v. f.keeps v.line ≡ true) vs → line_of vs i ≡ Some x → f.keeps x ≡ true
  kept_line [] i x k e = absurd (cc)
  kept_line (v ∷ vs) i x k e = elim (cases_Bool (eqb v.number i)) [
    | inl here ↦ let some : Some v.line ≡ Some x = rw here at e in let same : v.line ≡ x = cc in rw same at k.0
    | inr past ↦ kept_line vs i x k.1 (rw past at e)
  ]

  kept_newer : (x y : Option L) (z : L) → ((u : L) → x ≡ Some u → f.keeps u ≡ true) → ((u : L) → y ≡ Some u → f.keeps u ≡ true) → newer y x ≡ Some z → f.keeps z ≡ true
  kept_newer x None z kx ky e = kx z e
  kept_newer x (Some y) z kx ky e = ky z e

  kept_then : (i : ℕ) (x : Option L) (vs : List (ImageLine L)) → ((u : L) → x ≡ Some u → f.keeps u ≡ true) → AllByRecursion (λ v. f.keeps v.line ≡ true) vs → AllByRecursion (λ v. f.keeps v.line ≡ true) (and_then i x vs)
  kept_then i None vs h k = k
  kept_then i (Some x) vs h k = (h x refl, k)

  kept_listed : (g : ℕ → Option L) (low m : ℕ) → ((i : ℕ) (u : L) → g i ≡ Some u → f.keeps u ≡ true) → AllByRecursion (λ v. f.keeps v.line ≡ true) (listed g low m)
  kept_listed g low zero h = tt
  kept_listed g low (suc m) h = kept_then low (g low) (listed g (suc low) m) (h low) (kept_listed g (suc low) m h)

  module _ (a b : Content L) (earlier : LawfulImage f a) (later : LawfulImage f b) (fit : joins a b ≡ true) where
    rising_b : Rising 0 a.n b.lines
    rising_b = rw (joins-parts a b fit).0 later.rising

    -- walking both gives the lines of the join
    pub overlay_joined : overlay a.lines b.lines ≡ (join a b).lines
    overlay_joined = overlay_listed a.n 0 a.n a.lines b.lines (omega arith) earlier.rising rising_b

    rising-join : Rising 0 a.n (join a b).lines
    rising-join = rising-listed (λ i. newer (line_of b.lines i) (line_of a.lines i)) 0 a.n a.n (omega arith)

    full_join : length a.lines ≡ a.n → length (join a b).lines ≡ a.n
    full_join all =
        let self = ap length (listed_self a.n 0 a.n a.lines (omega arith) earlier.rising) in
        let more = listed_more (line_of a.lines) (line_of b.lines) 0 a.n in
        let few = rising_few 0 a.n (join a b).lines (omega arith) rising-join in
        omega arith

    later_from : (m : Mode) → partial m ≡ true → ByMode m b → b.from < b.point
    later_from Full p by = absurd (cc)
    later_from Partial p by = by

    mode-join : (m : Mode) → ByMode m a → ByMode m (join a b)
    mode-join Full by = (by.0, full_join by.1)
    mode-join Partial by =
        let p = joins-parts a b fit in
        let from = later_from b.mode p.1 later.by_mode in
        omega (arith, p.2)

    pub join-lawful : LawfulImage f (join a b)
    join-lawful = record {
      few = earlier.few;
      passed = later.passed;
      fits = later.fits;
      by_mode = mode-join a.mode earlier.by_mode;
      rising = rising-join;
      kept = kept_listed (λ i. newer (line_of b.lines i) (line_of a.lines i)) 0 a.n
          (λ i u e. kept_newer (line_of a.lines i) (line_of b.lines i) u (λ x h. kept_line a.lines i x earlier.kept h) (λ y h. kept_line b.lines i y later.kept h) e);
    }

module _ {L : Type 0} (f : Coding L) (lawful : Lawful f) where
  pub length_lines : (vs : List (ImageLine L)) → length (lines_bytes f vs) ≡ length vs * (6 + f.width)
  length_lines [] = sym (zero-mul (6 + f.width))
  length_lines (v ∷ vs) = omega (arith, length-append (bytes_of (line_record f) v) (lines_bytes f vs), line_long f lawful v, length_lines vs, suc-mul (length vs) (6 + f.width))

  -- how long an image is
  pub length-writing : (c : Content L) → length (writing f c) ≡ (16 + length c.lines * (6 + f.width)) + 6
  length-writing c =
      let head = bytes_of head_record (head_of f c) in
      let end = bytes_of end_record (length c.lines) in
      let sixteen : length head ≡ 16 = length-framed 1 (head_record.body (head_of f c)) ∙ rw (length-head (head_of f c)) in
      rw (writing-parts f c) (omega (arith, length-append head (lines_bytes f c.lines ++ end), length-append (lines_bytes f c.lines) end, length_end (length c.lines), length_lines c.lines))

  bytes_lines : (vs : List (ImageLine L)) → Bytes (lines_bytes f vs)
  bytes_lines [] = tt
  bytes_lines (v ∷ vs) = bytes-append (bytes_of (line_record f) v) (lines_bytes f vs) (bytes-framed 2 ((line_record f).body v) ((line_lawful f lawful).bytes v)) (bytes_lines vs)

  -- an image is bytes
  pub bytes-writing : (c : Content L) → Bytes (writing f c)
  bytes-writing c =
      let end = bytes_of end_record (length c.lines) in
      rw (writing-parts f c)
      (bytes-append (bytes_of head_record (head_of f c)) (lines_bytes f c.lines ++ end) (bytes-framed 1 (head_record.body (head_of f c)) (head-lawful.bytes (head_of f c)))
      (bytes-append (lines_bytes f c.lines) end (bytes_lines c.lines) (bytes-framed 3 (end_record.body (length c.lines)) (end_lawful.bytes (length c.lines)))))
