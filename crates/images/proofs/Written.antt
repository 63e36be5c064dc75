-- What was written as a lawful image, whole or up to a record, is read so.
use Rattle.std.proofs.Common.{◌≡◌, ℕ, zero, suc, ◌+◌, ◌^◌, ◌<◌, ◌≤◌, true, cond, eqb, ltb, leb, List, [], ◌∷◌, ◌++◌, map, length, take, Ok, Err, Result, sym, refl, ap, ◌∙◌, inl, inr, zero-add, arith}
use Rattle.std.proofs.lemmas.List.{append_assoc, append-nil, length-append}
use Rattle.std.proofs.lemmas.Bool.{and_from, cases_Bool, eq-eqb, le-leb, lt-ltb}
use Rattle.std.specs.List.{AllByRecursion}
use Rattle.lines.specs.Bytes.{Bytes}
use Rattle.lines.specs.Coding.{Coding, Lawful}
use Rattle.records.specs.declared.heads.Head.{Head}
use Rattle.records.specs.declared.heads.Mode.{Mode}
use Rattle.records.specs.declared.heads.Mode.TheVariants.{Full, Partial}
use Rattle.records.specs.declared.image_lines.ImageLine.{ImageLine}
use Rattle.records.specs.Framing.{bytes_of, read}
use Rattle.records.specs.Heads.{head_record, head_fits}
use Rattle.records.specs.ImageLines.{line_record}
use Rattle.records.specs.Numbers.{end_record}
use Rattle.records.proofs.Framed.{other_kind}
use Rattle.records.proofs.HeadBytes.{head-lawful}
use Rattle.records.proofs.LineBytes.{line_lawful}
use Rattle.records.proofs.OneNumber.{end_lawful}
use Rattle.images.specs.declared.faults.Unlawful.{Unlawful}
use Rattle.images.specs.Images.{Content, head_of, flat, writing, records, ByMode, LawfulImage, lines_bytes}
use Rattle.images.specs.Reading.{unlawful, from_allowed, head_allowed, in_turn, complete, no_lines, before, lines_from, with_head, reading}
use Rattle.images.proofs.Accepted.{Finish, length_end, walked}
use Rattle.images.proofs.Accepted.Finish.{stopped, trailing, closed}
use Rattle.images.proofs.Fronts.{Turns, Due, rising_few, rise_turns, due-complete, writing-parts, line_fit}
use Rattle.images.proofs.Layouts.{bytes_behind, written_read}
use Rattle.images.proofs.Walk.{turn_bounds, line_step, no_line}

module _ {L : Type 0} (f : Coding L) (lawful : Lawful f) (h : Head) (few : h.n ≤ 1024) where
  -- a line in its turn is read, and what is behind it is read next
  line_there : (k low count at : ℕ) (bs : List ℕ) (v : ImageLine L) (rest : List ℕ) → Bytes bs → in_turn h low v.number ≡ true → f.keeps v.line ≡ true → h.n ≤ count + k → count ≤ low
      → bs ≡ bytes_of (line_record f) v ++ rest
      → (j : ℕ) × (h.n ≤ suc count + j) × (suc count ≤ suc v.number) × Bytes rest
      × (lines_from f h k low count at bs ≡ before v (lines_from f h j (suc v.number) (suc count) (at + length (bytes_of (line_record f) v)) rest))
  line_there zero low count at bs v rest typed t kept fuel c e = let b = turn_bounds h low v.number t in absurd (omega (arith, b.0, b.1))
  line_there (suc k) low count at bs v rest typed t kept fuel c e =
      let b = turn_bounds h low v.number t in
      let len = length (bytes_of (line_record f) v) in
      let was = written_read (line_record f) (line_lawful f lawful) bs typed v rest (line_fit f v h.n b.1 few kept) e in
      (k, omega arith, omega (arith, b.0), rw was.1 at (bytes_behind len bs typed), line_step f h k low count at bs v len was.0 t ∙ rw was.1)

  -- an end that is due is read, and nothing may be behind it
  end_there : (k low count at : ℕ) (bs rest : List ℕ) → Bytes bs → count ≤ 1024 → complete h count ≡ true → bs ≡ bytes_of end_record count ++ rest
      → lines_from f h k low count at bs ≡ no_lines (cond (eqb 6 (length bs)) (Ok tt) (Err (unlawful (at + 6))))
  end_there k low count at bs rest typed most all e =
      let was = written_read end_record end_lawful bs typed count rest (lt-ltb count (256 ^ 2) (omega arith)) e in
      let none = other_kind end_record (line_record f) bs count (length (bytes_of end_record count)) was.0 (λ z. omega arith) (read (line_record f) bs) refl in
      no_line f h k low count at bs none ∙ rw (was.0, eq-eqb count count refl, all, length_end count)

  pub lines_back : (vs : List (ImageLine L)) (m k low count at : ℕ) (bs : List ℕ) → Bytes bs → Turns h low vs → AllByRecursion (λ v. f.keeps v.line ≡ true) vs → h.n ≤ count + k → count ≤ low
      → m ≡ count + length vs → m ≤ 1024 → complete h m ≡ true → bs ≡ lines_bytes f vs ++ bytes_of end_record m → lines_from f h k low count at bs ≡ Ok vs
  lines_back [] m k low count at bs typed t kept fuel c total most all e =
      let same : m ≡ count = omega arith in
      let end : bs ≡ bytes_of end_record count ++ [] = e ∙ rw (same, append-nil (bytes_of end_record count)) in
      let six : length bs ≡ 6 = ap length e ∙ length_end m in
      end_there k low count at bs [] typed (omega arith) (rw same at all) end ∙ rw (eq-eqb 6 (length bs) (sym six))
  lines_back (v ∷ vs) m k low count at bs typed t kept fuel c total most all e =
      let rest = lines_bytes f vs ++ bytes_of end_record m in
      let n = line_there k low count at bs v rest typed t.0 kept.0 fuel c (e ∙ append_assoc (bytes_of (line_record f) v) (lines_bytes f vs) (bytes_of end_record m)) in
      n.4 ∙ ap (before v) (lines_back vs m n.0 (suc v.number) (suc count) (at + length (bytes_of (line_record f) v)) rest n.3 t.1 kept.1 n.1 n.2 (omega arith) most all refl)

  -- a refusal does not come before the place where the walk is
  not_before : (at o : ℕ) (rest : List ℕ) (count : ℕ) (vs : List (ImageLine L)) (len : ℕ) (r : Result (List (ImageLine L)) Unlawful) → Finish h count (at + len) rest vs r → r ≡ Err (unlawful o) → at ≤ o
  not_before at o rest count vs len r (stopped e) is = let u : unlawful (at + len) ≡ unlawful o = cc in omega (arith, ap (λ x. x.offset) u)
  not_before at o rest count vs len r (trailing all end e) is = let u : unlawful ((at + len) + 6) ≡ unlawful o = cc in omega (arith, ap (λ x. x.offset) u)
  not_before at o rest count vs len r (closed all end e) is = absurd (cc)

  take_none : (j : ℕ) → flat (take j []) ≡ []
  take_none zero = refl
  take_none (suc j) = refl

  before_err : (v : ImageLine L) (r : Result (List (ImageLine L)) Unlawful) (u : Unlawful) → before v r ≡ Err u → r ≡ Err u
  before_err v (Ok vs) u e = absurd (cc)
  before_err v (Err w) u e = e

  pub lines_most : (vs : List (ImageLine L)) (j m k low count at : ℕ) (bs rest : List ℕ) (o : ℕ) → Bytes bs → Turns h low vs → AllByRecursion (λ v. f.keeps v.line ≡ true) vs → h.n ≤ count + k → count ≤ low
      → m ≡ count + length vs → m ≤ 1024 → complete h m ≡ true
      → bs ≡ flat (take j (map (bytes_of (line_record f)) vs ++ bytes_of end_record m ∷ [])) ++ rest → lines_from f h k low count at bs ≡ Err (unlawful o)
      → at + length (flat (take j (map (bytes_of (line_record f)) vs ++ bytes_of end_record m ∷ []))) ≤ o
  lines_most vs zero m k low count at bs rest o typed t kept fuel c total most all e err =
      let w = walked f lawful h k low count at bs typed fuel c (read (line_record f) bs) refl in
      omega (arith, not_before at o w.rest (count + length w.seen) w.seen (length (lines_bytes f w.seen)) _ w.finish err)
  lines_most [] (suc j) m k low count at bs rest o typed t kept fuel c total most all e err =
      let same : m ≡ count = omega arith in
      let end = bytes_of end_record m in
      let there : flat (take (suc j) (end ∷ [])) ≡ end = rw (take_none j) (append-nil end) in
      let found = end_there k low count at bs rest typed (omega arith) (rw same at all) (rw (there, same) at e) in
      elim (cases_Bool (eqb 6 (length bs))) [
        | inl last ↦ let wrong : Ok [] ≡ Err (unlawful o) = sym (rw last at found) ∙ err in absurd (cc)
        | inr more ↦
            let past : Err (unlawful (at + 6)) ≡ Err (unlawful o) = sym (rw more at found) ∙ err in
            let u : unlawful (at + 6) ≡ unlawful o = cc in
            rw there (omega (arith, length_end m, ap (λ x. x.offset) u))
      ]
  lines_most (v ∷ vs) (suc j) m k low count at bs rest o typed t kept fuel c total most all e err =
      let one = bytes_of (line_record f) v in
      let behind = flat (take j (map (bytes_of (line_record f)) vs ++ bytes_of end_record m ∷ [])) in
      let n = line_there k low count at bs v (behind ++ rest) typed t.0 kept.0 fuel c (e ∙ append_assoc one behind rest) in
      let later = lines_most vs j m n.0 (suc v.number) (suc count) (at + length one) (behind ++ rest) rest o n.3 t.1 kept.1 n.1 n.2 (omega arith) most all refl (before_err v _ (unlawful o) (sym n.4 ∙ err)) in
      omega (arith, length-append one behind)

from_lawful : {L : Type 0} (m : Mode) (h : Head) (c : Content L) → h.from ≡ c.from → h.point ≡ c.point → ByMode m c → from_allowed m h ≡ true
from_lawful Full h c from point by = eq-eqb h.from 0 (from ∙ by.0)
from_lawful Partial h c from point by = lt-ltb h.from h.point (omega arith)

from_small : {L : Type 0} (m : Mode) (c : Content L) → ByMode m c → c.point < 2 ^ 32 → c.from < 2 ^ 32
from_small Full c by fits = omega (arith, by.0)
from_small Partial c by fits = omega arith

mode-due : {L : Type 0} (m : Mode) (c : Content L) → ByMode m c → Due m (length c.lines) c.n
mode-due Full c by = by.1
mode-due Partial c by = tt

module _ {L : Type 0} (f : Coding L) (lawful : Lawful f) (c : Content L) (image : LawfulImage f c) where
  head_fit : head_fits (head_of f c) ≡ true
  head_fit =
      let few = image.few in
      and_from (ltb f.code 256) _ (lt-ltb f.code 256 lawful.code_byte)
      (and_from (ltb c.n (2 ^ 16)) _ (lt-ltb c.n (2 ^ 16) (omega arith))
      (and_from (ltb c.from (2 ^ 32)) _ (lt-ltb c.from (2 ^ 32) (from_small c.mode c image.by_mode image.fits)) (lt-ltb c.point (2 ^ 32) image.fits)))

  head-due : head_allowed f (head_of f c) ≡ true
  head-due =
      and_from (eqb f.code f.code) _ (eq-eqb f.code f.code refl)
      (and_from (leb c.n 1024) _ (le-leb c.n 1024 image.few)
      (and_from (leb 1 c.point) _ (le-leb 1 c.point image.passed) (from_lawful c.mode (head_of f c) c refl refl image.by_mode)))

  -- a lawful image's head is read, and then its lines
  pub head_there : (bs rest : List ℕ) → Bytes bs → bs ≡ bytes_of head_record (head_of f c) ++ rest
      → (reading f bs ≡ with_head (head_of f c) (lines_from f (head_of f c) c.n 0 0 (length (bytes_of head_record (head_of f c))) rest)) × Bytes rest
  unfolding reading
  head_there bs rest typed e =
      let h = head_of f c in
      let was = written_read head_record head-lawful bs typed h rest head_fit e in
      (rw (was.0, head-due, was.1), rw was.1 at (bytes_behind (length (bytes_of head_record h)) bs typed))

  few_lines : length c.lines ≤ 1024
  few_lines = omega (arith, image.few, rising_few 0 c.n c.lines (omega arith) image.rising)

  all-due : complete (head_of f c) (length c.lines) ≡ true
  all-due = due-complete c.mode c.n (length c.lines) (mode-due c.mode c image.by_mode)

  in_turns : Turns (head_of f c) 0 c.lines
  in_turns = rise_turns (head_of f c) 0 c.lines image.rising (rw zero-add (mode-due c.mode c image.by_mode))

  pub back : (bs : List ℕ) → Bytes bs → bs ≡ writing f c → reading f bs ≡ Ok c
  back bs typed e =
      let h = head_of f c in
      let rest = lines_bytes f c.lines ++ bytes_of end_record (length c.lines) in
      let there = head_there bs rest typed (e ∙ writing-parts f c) in
      let lines = lines_back f lawful h image.few c.lines (length c.lines) c.n 0 0 (length (bytes_of head_record h)) rest there.1 in_turns image.kept (omega arith) (omega arith) (omega arith) few_lines all-due refl in
      there.0 ∙ rw lines

  with_head_err : (h : Head) (r : Result (List (ImageLine L)) Unlawful) (u : Unlawful) → with_head h r ≡ Err u → r ≡ Err u
  with_head_err h (Ok vs) u e = absurd (cc)
  with_head_err h (Err w) u e = cc

  pub most : (bs : List ℕ) (o : ℕ) → Bytes bs → reading f bs ≡ Err (unlawful o) → (k : ℕ) (rest : List ℕ) → bs ≡ flat (take k (records f c)) ++ rest → length (flat (take k (records f c))) ≤ o
  most bs o typed err zero rest e = omega arith
  most bs o typed err (suc k) rest e =
      let h = head_of f c in
      let head = bytes_of head_record h in
      let front = flat (take k (map (bytes_of (line_record f)) c.lines ++ bytes_of end_record (length c.lines) ∷ [])) in
      let there = head_there bs (front ++ rest) typed (e ∙ append_assoc head front rest) in
      let lines = lines_most f lawful h image.few c.lines k (length c.lines) c.n 0 0 (length head) (front ++ rest) rest o there.1 in_turns image.kept (omega arith) (omega arith) (omega arith) few_lines all-due refl (with_head_err h _ (unlawful o) (sym there.0 ∙ err)) in
      omega (arith, length-append head front)
