-- The walk over an image's lines, one record at a time.
use Rattle.std.proofs.Common.{◌≡◌, ℕ, zero, suc, ◌+◌, ◌-◌, ◌<◌, ◌≤◌, true, false, ltb, List, length, take, drop, Some, None, Ok, Err, Result, sym, refl, ap, add-one, arith}
use Rattle.std.proofs.lemmas.List.{length-drop, drop-drop, take_rest}
use Rattle.std.proofs.lemmas.Bool.{and_parts, eqb-true, leb-true, ltb-true}
use Rattle.lines.specs.Coding.{Coding}
use Rattle.records.specs.declared.heads.Head.{Head}
use Rattle.records.specs.declared.heads.Mode.{Mode}
use Rattle.records.specs.declared.heads.Mode.TheVariants.{Full, Partial}
use Rattle.records.specs.declared.image_lines.ImageLine.{ImageLine}
use Rattle.records.specs.Framing.{read}
use Rattle.records.specs.ImageLines.{line_record}
use Rattle.records.specs.Numbers.{end_record}
use Rattle.records.proofs.Framed.{found, other_kind}
use Rattle.images.specs.declared.faults.Unlawful.{Unlawful}
use Rattle.images.specs.Reading.{unlawful, follows, in_turn, no_lines, end_of, before, lines_from}

-- a line in its turn is below n and not below the number behind the last one
least : (m : Mode) (low i : ℕ) → follows m low i ≡ true → low ≤ i
least Full low i h = omega (arith, eqb-true i low h)
least Partial low i h = leb-true low i h

pub turn_bounds : (h : Head) (low i : ℕ) → in_turn h low i ≡ true → (low ≤ i) × (i < h.n)
turn_bounds h low i t =
    let p = and_parts (ltb i h.n) (follows h.mode low i) t in
    (least h.mode low i p.1, ltb-true i h.n p.0)

module _ {L : Type 0} (f : Coding L) (h : Head) where
  -- a line in its turn, while more lines can come
  pub line_step : (k low count at : ℕ) (bs : List ℕ) (v : ImageLine L) (len : ℕ) → read (line_record f) bs ≡ Some (v, len) → in_turn h low v.number ≡ true
      → lines_from f h (suc k) low count at bs ≡ before v (lines_from f h k (suc v.number) (suc count) (at + len) (drop len bs))
  line_step k low count at bs v len e t = rw (e, t)

  -- n less the lines before is how many can come, and one of them does
  pub one_line : (low count at : ℕ) (bs : List ℕ) (v : ImageLine L) (len : ℕ) → read (line_record f) bs ≡ Some (v, len) → in_turn h low v.number ≡ true → count ≤ low
      → lines_from f h (h.n - count) low count at bs ≡ before v (lines_from f h (h.n - suc count) (suc v.number) (suc count) (at + len) (drop len bs))
  one_line low count at bs v len e t c =
      let b = turn_bounds h low v.number t in
      let fuel : h.n - count ≡ suc (h.n - suc count) = omega (arith, b.0, b.1) in
      rw fuel (line_step (h.n - suc count) low count at bs v len e t)

  -- a line out of its turn is refused
  pub no_turn : (k low count at : ℕ) (bs : List ℕ) (v : ImageLine L) (len : ℕ) → read (line_record f) bs ≡ Some (v, len) → in_turn h low v.number ≡ false
      → lines_from f h k low count at bs ≡ Err (unlawful at)
  no_turn zero low count at bs v len e t =
      rw (other_kind (line_record f) end_record bs v len e (λ z. omega arith) (read end_record bs) refl)
  no_turn (suc k) low count at bs v len e t = rw (e, t)

  -- where no line stands, the end is asked for
  pub no_line : (k low count at : ℕ) (bs : List ℕ) → read (line_record f) bs ≡ None → lines_from f h k low count at bs ≡ no_lines (end_of h count at bs)
  no_line zero low count at bs e = refl
  no_line (suc k) low count at bs e = rw e

-- how many lines there are with those before
abbrev pub continued : {L : Type 0} → ℕ → Result (List (ImageLine L)) Unlawful → Result ℕ Unlawful
continued count (Ok vs) = Ok (count + length vs)
continued count (Err u) = Err u

pub continued_before : {L : Type 0} (count : ℕ) (v : ImageLine L) (r : Result (List (ImageLine L)) Unlawful) → continued (suc count) r ≡ continued count (before v r)
continued_before count v (Ok vs) = ap Ok (omega arith)
continued_before count v (Err u) = refl

-- at the end they are just those before
abbrev pub closed : ℕ → Result (Unit {0}) Unlawful → Result ℕ Unlawful
closed count (Ok t) = Ok count
closed count (Err u) = Err u

continued_end : (L : Type 0) (count : ℕ) (r : Result (Unit {0}) Unlawful) → continued {L = L} count (no_lines r) ≡ closed count r
continued_end L count (Ok t) = ap Ok (omega arith)
continued_end L count (Err u) = refl

-- the same as the code goes about it, at the offset at of the image bs
module _ {L : Type 0} (f : Coding L) (h : Head) (bs : List ℕ) (low count at : ℕ) where
  pub step_on : (v : ImageLine L) (len : ℕ) → Some (v, len) ≡ read (line_record f) (take (length bs - at) (drop at bs)) → in_turn h low v.number ≡ true → count ≤ low → at ≤ length bs
      → (at + len ≤ length bs)
      × (continued (count + 1) (lines_from f h (h.n - (count + 1)) (v.number + 1) (count + 1) (at + len) (drop (at + len) bs)) ≡ continued count (lines_from f h (h.n - count) low count at (drop at bs)))
  step_on v len e t c inside =
      let here : read (line_record f) (drop at bs) ≡ Some (v, len) = rw (take_rest bs at) at (sym e) in
      let size = found (line_record f) (drop at bs) v len here in
      let more = one_line f h low count at (drop at bs) v len here t c in
      (omega (arith, size.1, length-drop at bs), rw (add-one, add-one, ← drop-drop len at bs, more) (continued_before count v _))

  pub step_off : (v : ImageLine L) (len : ℕ) → Some (v, len) ≡ read (line_record f) (take (length bs - at) (drop at bs)) → in_turn h low v.number ≡ false
      → Err (unlawful at) ≡ continued count (lines_from f h (h.n - count) low count at (drop at bs))
  step_off v len e t = rw (no_turn f h (h.n - count) low count at (drop at bs) v len (rw (take_rest bs at) at (sym e)) t)

  pub step_end : None ≡ read (line_record f) (take (length bs - at) (drop at bs)) → (r : Result (Unit {0}) Unlawful) → r ≡ end_of h count at (take (length bs - at) (drop at bs))
      → closed count r ≡ continued count (lines_from f h (h.n - count) low count at (drop at bs))
  step_end e r is =
      let end : r ≡ end_of h count at (drop at bs) = rw (take_rest bs at) at is in
      rw (no_line f h (h.n - count) low count at (drop at bs) (rw (take_rest bs at) at (sym e)), ← end) (sym (continued_end L count r))
