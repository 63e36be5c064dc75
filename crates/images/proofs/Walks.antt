-- The lines of an image one by one: the first of those that are left, and that those of a lawful image are its lines.
use Rattle.std.proofs.Common.{◌≡◌, ℕ, zero, suc, ◌+◌, ◌-◌, ◌<◌, ◌≤◌, List, [], ◌∷◌, length, drop, Some, None, Option, sym, refl, arith}
use Rattle.std.proofs.lemmas.List.{drop_all}
use Rattle.std.specs.List.{slice_get}
use Rattle.lines.specs.Coding.{Coding, Lawful}
use Rattle.records.specs.declared.image_lines.ImageLine.{ImageLine}
use Rattle.images.specs.Images.{Content, LawfulImage, writing}
use Rattle.images.specs.Parts.{part_of, line_in_part}
use Rattle.images.specs.Walks.{in_front, lines_at}
use Rattle.images.proofs.Handing.{hands_line, nth_none}

module _ {L : Type 0} (f : Coding L) (bs : List ℕ) (count : ℕ) where
  abbrev line_in : ℕ → Option (ImageLine L)
  line_in k = line_in_part f (part_of f bs count k)

  front_few : (o : Option (ImageLine L)) (vs : List (ImageLine L)) (m : ℕ) → length vs ≤ m → length (in_front o vs) ≤ suc m
  front_few None vs m h = omega arith
  front_few (Some v) vs m h = omega arith

  -- no more are listed than are asked for
  pub lines_few : (m k : ℕ) → length (lines_at f bs count m k) ≤ m
  lines_few zero k = omega arith
  lines_few (suc m) k = front_few (line_in k) (lines_at f bs count m (suc k)) m (lines_few m (suc k))

  drop_nth : {X : Type 0} (xs : List X) (i : ℕ) (x : X) → slice_get xs i ≡ Some x → drop i xs ≡ x ∷ drop (suc i) xs
  drop_nth [] i x e = absurd (cc)
  drop_nth (y ∷ xs) zero x e = let same : y ≡ x = cc in rw same
  drop_nth (y ∷ xs) (suc i) x e = drop_nth xs i x e

  module _ (vs : List (ImageLine L)) (is : (k : ℕ) → line_in k ≡ slice_get vs k) where
    line_on : (o : Option (ImageLine L)) (rest : List (ImageLine L)) (k : ℕ) → slice_get vs k ≡ o → k < length vs → rest ≡ drop (suc k) vs → in_front o rest ≡ drop k vs
    line_on None rest k n low e = absurd (omega (arith, nth_none vs k n))
    line_on (Some v) rest k h low e = rw e (sym (drop_nth vs k v h))

    pub lines_on : (m k : ℕ) → m + k ≡ length vs → lines_at f bs count m k ≡ drop k vs
    lines_on zero k e = sym (drop_all k vs (omega arith))
    lines_on (suc m) k e = rw (is k) (line_on (slice_get vs k) (lines_at f bs count m (suc k)) k refl (omega arith) (lines_on m (suc k) (omega arith)))

-- those of a lawful image
pub lists_all : {L : Type 0} (f : Coding L) (lawful : Lawful f) (bs : List ℕ) (count : ℕ) (c : Content L) → LawfulImage f c → bs ≡ writing f c → count ≡ length c.lines → lines_at f bs count (count - 0) 0 ≡ c.lines
lists_all f lawful bs count c image is all =
    lines_on f bs count c.lines (λ k. hands_line f lawful bs count k (line_in_part f (part_of f bs count k)) refl c image is all) (count - 0) 0 (omega arith)
