-- What a walk over the lines of an image has found when it comes to its end.
use Rattle.images.specs.Images.{lines_bytes}
use Rattle.std.proofs.Common.{◌≡◌, ℕ, zero, suc, ◌+◌, ◌^◌, ◌≤◌, true, ◌&&◌, eqb, ltb, List, [], ◌∷◌, ◌++◌, length, drop, Some, None, Ok, Err, Option, Result, sym, refl, ap, ◌∙◌, inl, inr, arith}
use Rattle.std.proofs.lemmas.List.{append_assoc, append-nil, length-append, drop_all}
use Rattle.std.proofs.lemmas.Bool.{and_parts, cases_Bool, eqb-true}
use Rattle.std.specs.List.{AllByRecursion}
use Rattle.lines.specs.Bytes.{Bytes}
use Rattle.lines.specs.Coding.{Coding, Lawful}
use Rattle.records.specs.declared.heads.Head.{Head}
use Rattle.records.specs.declared.image_lines.ImageLine.{ImageLine}
use Rattle.records.specs.Framing.{bytes_of, read}
use Rattle.records.specs.ImageLines.{line_record}
use Rattle.records.specs.Numbers.{end_record}
use Rattle.lines.proofs.LittleEndian.{length-le}
use Rattle.records.proofs.Framed.{length-framed}
use Rattle.records.proofs.LineBytes.{line_lawful}
use Rattle.records.proofs.OneNumber.{end_lawful}
use Rattle.images.specs.declared.faults.Unlawful.{Unlawful}
use Rattle.images.specs.Reading.{unlawful, in_turn, complete, ended, no_lines, before, lines_from}
use Rattle.images.proofs.Fronts.{Turns}
use Rattle.images.proofs.Layouts.{bytes_behind, read_written}
use Rattle.images.proofs.Walk.{turn_bounds, line_step, no_turn, no_line}

-- how it ended, behind count lines vs and at the offset at, before rest: with a record that cannot be there, with something behind
-- the end, or with the end
pub data Finish {L : Type 0} (h : Head) (count at : ℕ) (rest : List ℕ) (vs : List (ImageLine L)) (r : Result (List (ImageLine L)) Unlawful) : Type 0 where
  stopped : r ≡ Err (unlawful at) → Finish h count at rest vs r
  trailing : complete h count ≡ true → rest ≡ bytes_of end_record count ++ drop 6 rest → r ≡ Err (unlawful (at + 6)) → Finish h count at rest vs r
  closed : complete h count ≡ true → rest ≡ bytes_of end_record count → r ≡ Ok vs → Finish h count at rest vs r

-- one line more in front of what was found
finish_more : {L : Type 0} (h : Head) (count at : ℕ) (rest : List ℕ) (v : ImageLine L) (vs : List (ImageLine L)) (r : Result (List (ImageLine L)) Unlawful)
    → Finish h count at rest vs r → Finish h count at rest (v ∷ vs) (before v r)
finish_more h count at rest v vs r (stopped e) = stopped (ap (before v) e)
finish_more h count at rest v vs r (trailing all is e) = trailing all is (ap (before v) e)
finish_more h count at rest v vs r (closed all is e) = closed all is (ap (before v) e)

pub record Walked {L : Type 0} (f : Coding L) (h : Head) (low count at : ℕ) (bs : List ℕ) (r : Result (List (ImageLine L)) Unlawful) : Type 0 where
  pub seen : List (ImageLine L)
  pub rest : List ℕ
  pub split : bs ≡ lines_bytes f seen ++ rest
  pub turns : Turns h low seen
  pub kept : AllByRecursion (λ v. f.keeps v.line ≡ true) seen
  pub finish : Finish h (count + length seen) (at + length (lines_bytes f seen)) rest seen r

pub length_end : (count : ℕ) → length (bytes_of end_record count) ≡ 6
length_end count = length-framed 3 (end_record.body count) ∙ rw (length-le 2 count)

-- an end, or what stands in its place
end_found : {L : Type 0} (h : Head) (count at : ℕ) (bs : List ℕ) → Bytes bs → (o : Option (ℕ × ℕ)) → read end_record bs ≡ o
    → Finish {L = L} h count at bs [] (no_lines (ended h count at (length bs) o))
end_found h count at bs typed None e = stopped refl
end_found h count at bs typed (Some p) e =
    let was = read_written end_record end_lawful bs typed p.0 p.1 e in
    elim (cases_Bool (eqb p.0 count && complete h count)) [
      | inr other ↦ stopped (rw other)
      | inl due ↦
          let t = and_parts (eqb p.0 count) (complete h count) due in
          let told : p.0 ≡ count = eqb-true p.0 count t.0 in
          let six : p.1 ≡ 6 = was.1 ∙ length_end p.0 in
          let split : bs ≡ bytes_of end_record count ++ drop 6 bs = rw (told, six) at was.2 in
          elim (cases_Bool (eqb p.1 (length bs))) [
            | inl last ↦
                let long : p.1 ≡ length bs = eqb-true p.1 (length bs) last in
                let none : drop 6 bs ≡ [] = drop_all 6 bs (omega arith) in
                closed t.1 (split ∙ rw none (append-nil (bytes_of end_record count))) (rw (due, last))
            | inr more ↦ trailing t.1 split (rw (due, more, six))
          ]
    ]

module _ {L : Type 0} (f : Coding L) (lawful : Lawful f) (h : Head) where
  -- nothing was found, and the walk ends here
  halted : (low count at : ℕ) (bs : List ℕ) (r : Result (List (ImageLine L)) Unlawful) → Finish h count at bs [] r → Walked f h low count at bs r
  halted low count at bs r end =
      let none : count + 0 ≡ count = omega arith in
      let here : at + 0 ≡ at = omega arith in
      record { seen = []; rest = bs; split = refl; turns = tt; kept = tt; finish = rw (none, here) end }

  -- a line in its turn, and what was found behind it
  further : (low count at : ℕ) (bs : List ℕ) (r : Result (List (ImageLine L)) Unlawful) → Bytes bs → (v : ImageLine L) (len : ℕ) → read (line_record f) bs ≡ Some (v, len) → in_turn h low v.number ≡ true
      → Walked f h (suc v.number) (suc count) (at + len) (drop len bs) r → Walked f h low count at bs (before v r)
  further low count at bs r typed v len e t w =
      let was = read_written (line_record f) (line_lawful f lawful) bs typed v len e in
      let fit = and_parts (ltb v.number (2 ^ 16)) (f.keeps v.line) was.0 in
      let one = bytes_of (line_record f) v in
      let more : count + length (v ∷ w.seen) ≡ suc count + length w.seen = omega arith in
      let there : at + length (lines_bytes f (v ∷ w.seen)) ≡ (at + len) + length (lines_bytes f w.seen) = omega (arith, length-append one (lines_bytes f w.seen), was.1) in
      record {
        seen = v ∷ w.seen;
        rest = w.rest;
        split = was.2 ∙ ap (λ behind. one ++ behind) w.split ∙ sym (append_assoc one (lines_bytes f w.seen) w.rest);
        turns = (t, w.turns);
        kept = (fit.1, w.kept);
        finish = rw (more, there) (finish_more h (suc count + length w.seen) ((at + len) + length (lines_bytes f w.seen)) w.rest v w.seen r w.finish);
      }

  pub walked : (k low count at : ℕ) (bs : List ℕ) → Bytes bs → h.n ≤ count + k → count ≤ low → (o : Option (ImageLine L × ℕ)) → read (line_record f) bs ≡ o
      → Walked f h low count at bs (lines_from f h k low count at bs)
  walked k low count at bs typed fuel c None e =
      halted low count at bs _ (rw (no_line f h k low count at bs e) (end_found h count at bs typed (read end_record bs) refl))
  walked zero low count at bs typed fuel c (Some p) e = elim (cases_Bool (in_turn h low p.0.number)) [
    | inl t ↦ let b = turn_bounds h low p.0.number t in absurd (omega (arith, b.0, b.1))
    | inr out ↦ halted low count at bs _ (stopped (no_turn f h zero low count at bs p.0 p.1 e out))
  ]
  walked (suc k) low count at bs typed fuel c (Some p) e = elim (cases_Bool (in_turn h low p.0.number)) [
    | inl t ↦
        let b = turn_bounds h low p.0.number t in
        let behind = drop p.1 bs in
        let w = walked k (suc p.0.number) (suc count) (at + p.1) behind (bytes_behind p.1 bs typed) (omega arith) (omega (arith, b.0)) (read (line_record f) behind) refl in
        rw (line_step f h k low count at bs p.0 p.1 e t) (further low count at bs _ typed p.0 p.1 e t w)
    | inr out ↦ halted low count at bs _ (stopped (no_turn f h (suc k) low count at bs p.0 p.1 e out))
  ]
