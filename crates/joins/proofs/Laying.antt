-- Bytes that are written into memory, each piece behind the one before.
use Rattle.images.specs.Images.{lines_bytes}
use Rattle.std.proofs.Common.{◌≡◌, ℕ, ◌+◌, ◌≤◌, List, [], ◌∷◌, ◌++◌, length, take, drop, Some, None, Option, sym, refl, ap, ◌∙◌, arith}
use Rattle.std.proofs.lemmas.List.{append_assoc, drop_at, drop-drop, length-append, length-drop, length-take-le, take-append-drop, take_at}
use Rattle.lines.specs.Bytes.{overwritten, put, room}
use Rattle.lines.specs.Coding.{Coding}
use Rattle.records.specs.declared.image_lines.ImageLine.{ImageLine}
use Rattle.records.specs.Framing.{bytes_of}
use Rattle.records.specs.ImageLines.{line_record}
use Rattle.joins.specs.Merging.{Laid}

module _ (m : List ℕ) (at : ℕ) (inside : at ≤ length m) where
  pub overwritten_none : m ≡ overwritten m at []
  overwritten_none = let e : at + 0 ≡ at = omega arith in rw e (sym (take-append-drop at m))

  -- a piece behind a piece is both in one
  pub overwritten-append : (bs cs : List ℕ) → overwritten (overwritten m at bs) (at + length bs) cs ≡ overwritten m at (bs ++ cs)
  overwritten-append bs cs =
      let front = take at m ++ bs in
      let rest = drop (at + length bs) m in
      let parts : overwritten m at bs ≡ front ++ rest = sym (append_assoc (take at m) bs rest) in
      let long : length front ≡ at + length bs = omega (arith, length-append (take at m) bs, length-take-le at m inside) in
      let first : take (at + length bs) (front ++ rest) ≡ front = take_at front rest (at + length bs) long in
      let behind : drop (at + length bs + length cs) (front ++ rest) ≡ drop (at + length (bs ++ cs)) m =
      let total : at + length (bs ++ cs) ≡ at + length bs + length cs = omega (arith, length-append bs cs) in
      rw (total, ← drop-drop (length cs) (at + length bs) (front ++ rest), drop_at front rest (at + length bs) long, drop-drop (length cs) (at + length bs) m) in
      rw (parts, first, behind, append_assoc (take at m) bs (cs ++ drop (at + length (bs ++ cs)) m), append_assoc bs cs (drop (at + length (bs ++ cs)) m))

  pub length-overwritten : (bs : List ℕ) → at + length bs ≤ length m → length (overwritten m at bs) ≡ length m
  length-overwritten bs h =
      let rest = drop (at + length bs) m in
      omega (arith, length-append (take at m) (bs ++ rest), length-append bs rest, length-take-le at m inside, length-drop (at + length bs) m)

-- two pieces, the one behind the other
pub two_laid : (m : List ℕ) (at : ℕ) (bs cs : List ℕ) (n o : List ℕ) (s : ℕ) (e : Option ℕ) → Laid bs m at n (Some s) → Laid cs n s o e → Laid (bs ++ cs) m at o e
two_laid m at bs cs n o s e first second room =
    let sizes = length-append bs cs in
    let inside : at ≤ length m = omega arith in
    let p = first (omega arith) in
    let here : s ≡ at + length bs = cc in
    let long : length n ≡ length m = ap length p.1 ∙ length-overwritten m at inside bs (omega arith) in
    let q = second (omega arith) in
    (q.0 ∙ ap Some (omega arith), q.1 ∙ rw (here, p.1) (overwritten-append m at inside bs cs))

-- where there is no room for the first piece, there is none for both
pub none_laid : (m : List ℕ) (at : ℕ) (bs cs : List ℕ) (n o : List ℕ) (e : Option ℕ) → Laid bs m at n None → Laid (bs ++ cs) m at o e
none_laid m at bs cs n o e first room =
    let sizes = length-append bs cs in
    let p = (first (omega arith)).0 in
    absurd (cc)

-- lines written from start on into memory m, up to the offset at: out is what it holds now, and the lines left are still to come
pub record SoFar {L : Type 0} (f : Coding L) (all left : List (ImageLine L)) (m : List ℕ) (start : ℕ) (out : List ℕ) (at : ℕ) : Type 0 where
  pub done : List ℕ
  pub here : at ≡ start + length done
  pub held : out ≡ overwritten m start done
  pub total : done ++ lines_bytes f left ≡ lines_bytes f all

module _ {L : Type 0} (f : Coding L) (all : List (ImageLine L)) (m : List ℕ) (start : ℕ) (inside : start ≤ length m) where
  pub none_yet : SoFar f all all m start m start
  none_yet = record { done = []; here = omega arith; held = overwritten_none m start inside; total = refl }

  module _ (room : start + length (lines_bytes f all) ≤ length m) (left : List (ImageLine L)) (out : List ℕ) (at : ℕ) (s : SoFar f all left m start out at) where
    -- there is room for the next line
    module _ (v : ImageLine L) (rest : List (ImageLine L)) (is : left ≡ v ∷ rest) where
      abbrev one : List ℕ
      one = bytes_of (line_record f) v

      parts : s.done ++ (one ++ lines_bytes f rest) ≡ lines_bytes f all
      parts = ap (λ vs. s.done ++ lines_bytes f vs) (sym is) ∙ s.total

      fits_next : at + length one ≤ length out
      fits_next =
          let sizes = ap length parts in
          let long : length out ≡ length m = ap length s.held ∙ length-overwritten m start inside s.done (omega (arith, length-append s.done (one ++ lines_bytes f rest))) in
          omega (arith, s.here, length-append s.done (one ++ lines_bytes f rest), length-append one (lines_bytes f rest))

      pub one_more : (after : List ℕ) (r : ℕ) → Laid (bytes_of (line_record f) v) out at after (Some r) → SoFar f all rest m start after r
      one_more after r put =
          let p = put fits_next in
          let here : r ≡ at + length one = cc in
          record {
            done = s.done ++ one;
            here = omega (arith, s.here, length-append s.done one);
            held = p.1 ∙ rw (s.here, s.held) (overwritten-append m start inside s.done one);
            total = append_assoc s.done one (lines_bytes f rest) ∙ parts;
          }

      pub one_none : (after : List ℕ) → Laid (bytes_of (line_record f) v) out at after None → ⊥
      one_none after put = let p = (put fits_next).0 in cc
