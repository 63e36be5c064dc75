-- What a join answers, once both images were read, and what it leaves in memory.
use Rattle.std.proofs.Common.{◌≡◌, ℕ, ◌+◌, ◌*◌, ◌<◌, ◌≤◌, true, leb, List, ◌++◌, length, take, drop, Some, Option, Ok, Err, Result, sym, refl, ap, ◌∙◌, inl, inr, zero-add, arith}
use Rattle.std.proofs.lemmas.List.{take_at}
use Rattle.std.proofs.lemmas.Bool.{cases_Bool, leb-true, le-leb, lt-leb}
use Rattle.std.specs.Result.{MatchResult}
use Rattle.lines.specs.Bytes.{Bytes}
use Rattle.lines.specs.Coding.{Coding, Lawful}
use Rattle.lines.proofs.Payloads.{put_fits}
use Rattle.joins.specs.declared.faults.JoinFault.{JoinFault}
use Rattle.joins.specs.declared.faults.JoinFault.TheVariants.{Apart, Short}
use Rattle.images.specs.declared.faults.Unlawful.{Unlawful}
use Rattle.images.specs.declared.reader.Image.{Image}
use Rattle.images.specs.Images.{Content, LawfulImage, head_of, writing}
use Rattle.joins.specs.Joining.{join, joins, join_read, joined, within, lengthed, laid_in, JoinLaw}
use Rattle.joins.specs.Merging.{ReadAs, heads_join, Laid}
use Rattle.images.specs.Parts.{Outline, seen, outlined}
use Rattle.images.specs.Reading.{reading, OneImage}
use Rattle.images.proofs.Fronts.{rising_few}
use Rattle.joins.proofs.Joined.{join-lawful, length-writing, bytes-writing}
use Rattle.images.proofs.Only.{only}
use Rattle.images.proofs.Written.{back}

module _ {L : Type 0} (f : Coding L) (bs : List ℕ) (one : OneImage f bs) (image : Image) where
  saying : (r : Result (Content L) Unlawful) → reading f bs ≡ r → seen (Ok image) ≡ outlined f bs r → (c : Content L) × (reading f bs ≡ Ok c) × ReadAs f image c
  saying (Err u) is e = absurd (cc)
  saying (Ok c) is e =
      let same : ◌≡◌ {A = Outline} (record { bytes = image.bytes.now; head = image.head; count = image.count }) (record { bytes = bs; head = head_of f c; count = length c.lines }) = cc in
      let was = one.only c is in
      (c, is, record { lawful = was.0; bytes = ap (λ o. o.bytes) same ∙ was.1; head = ap (λ o. o.head) same; count = ap (λ o. o.count) same })

  -- an image that the reader answered, and that a fault in its place would have hidden, says something
  pub read_as : (answer : Result Image Unlawful) → seen answer ≡ outlined f bs (reading f bs)
      → MatchResult {T = Image} answer (λ y. ◌≡◌ {A = Result Image JoinFault} (Ok image) (Ok y)) (λ e. ⊥) → (c : Content L) × (reading f bs ≡ Ok c) × ReadAs f image c
  read_as (Ok y) e h = let same : image ≡ y = cc in saying (reading f bs) refl (rw same e)
  read_as (Err u) e h = absurd h

module _ {L : Type 0} (f : Coding L) (a b : Content L) (earlier later : Image) (ra : ReadAs f earlier a) (rb : ReadAs f later b) (m : List ℕ) where
  -- the heads tell whether two images join
  pub same_heads : heads_join earlier.head later.head ≡ joins a b
  same_heads = rw (ra.head, rb.head)

  module _ (fit : joins a b ≡ true) where
    pub too_short : (size : ℕ) → size ≡ length (writing f (join a b)) → length m < size
        → (Err (Short size) ≡ lengthed (within (length m) (join_read f (Ok a) (Ok b)))) × (m ≡ laid_in m (within (length m) (join_read f (Ok a) (Ok b))))
    too_short size is h =
        let short = lt-leb (length (writing f (join a b))) (length m) (omega arith) in
        (rw (fit, short, is), rw (fit, short))

    pub written : (after : List ℕ) (r : Option ℕ) (x : Result ℕ JoinFault) → length (writing f (join a b)) ≤ length m → Laid (writing f (join a b)) m 0 after r → ((n : ℕ) → r ≡ Some n → x ≡ Ok n)
        → (x ≡ lengthed (within (length m) (join_read f (Ok a) (Ok b)))) × (after ≡ laid_in m (within (length m) (join_read f (Ok a) (Ok b))))
    written after r x h put told =
        let w = writing f (join a b) in
        let fits = le-leb (length w) (length m) h in
        let p = put (omega arith) in
        let none : 0 + length w ≡ length w = zero-add (length w) in
        (rw (fit, fits) (told (0 + length w) p.0 ∙ ap Ok none), rw (fit, fits) (p.1 ∙ rw none (sym (put_fits w m h).1)))

-- the join of images that were read has few lines, and its length is known from their number
module _ {L : Type 0} (f : Coding L) (lawful : Lawful f) (a b : Content L) (earlier : LawfulImage f a) (later : LawfulImage f b) (fit : joins a b ≡ true) where
  pub few_joined : length (join a b).lines ≤ 1024
  few_joined =
      let joined = join-lawful f a b earlier later fit in
      omega (arith, joined.few, rising_few 0 a.n (join a b).lines (omega arith) joined.rising)

  pub joined-size : (count w : ℕ) → count ≡ length (join a b).lines → w ≡ f.width → (16 + count * (6 + w)) + 6 ≡ length (writing f (join a b))
  joined-size count w all wide = rw (all, wide) (sym (length-writing f lawful (join a b)))

module _ {L : Type 0} (f : Coding L) (lawful : Lawful f) (x y m : List ℕ) (typed_x : Bytes x) (typed_y : Bytes y) where
  -- a join that is accepted fits the memory and stands at its front
  accepted_join : (a b : Content L) (n : ℕ) → joins a b ≡ true → lengthed (within (length m) (Ok (writing f (join a b)))) ≡ Ok n
      → (n ≡ length (writing f (join a b))) × (laid_in m (within (length m) (Ok (writing f (join a b)))) ≡ writing f (join a b) ++ drop n m)
  accepted_join a b n fit ok =
      let w = writing f (join a b) in
      elim (cases_Bool (leb (length w) (length m))) [
        | inl fits ↦
            let some : Ok (length w) ≡ Ok n = rw fits at ok in
            let same : length w ≡ n = cc in
            (sym same, rw fits ((put_fits w m (leb-true (length w) (length m) fits)).1 ∙ rw same))
        | inr short ↦ let none : Err (Short (length w)) ≡ Ok n = rw short at ok in absurd (cc)
      ]

  pub join_law : (r : Result ℕ JoinFault) (after : List ℕ) → r ≡ lengthed (within (length m) (joined f x y)) → after ≡ laid_in m (within (length m) (joined f x y)) → JoinLaw f x y r after
  join_law r after answer left a b n rx ry ok =
      let w = writing f (join a b) in
      let told : lengthed (within (length m) (join_read f (Ok a) (Ok b))) ≡ Ok n = rw (rx, ry) at (sym answer) ∙ ok in
      let holds : after ≡ laid_in m (within (length m) (join_read f (Ok a) (Ok b))) = rw (rx, ry) at left in
      elim (cases_Bool (joins a b)) [
        | inl fit ↦
            let got = accepted_join a b n fit (rw fit at told) in
            let front : take n after ≡ w = rw (rw fit at holds, got.1) (take_at w (drop n m) n (sym got.0)) in
            let old = (only f lawful x typed_x a rx).0 in
            let new = (only f lawful y typed_y b ry).0 in
            let whole = join-lawful f a b old new fit in
            (whole, front, rw front (back f lawful (join a b) whole w (bytes-writing f lawful (join a b)) refl))
        | inr apart ↦ let none : Err (Apart b.point) ≡ Ok n = rw apart at told in absurd (cc)
      ]
