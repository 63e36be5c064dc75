-- What is accepted is a lawful image, and is its only writing.
use Rattle.std.proofs.Common.{◌≡◌, ℕ, ◌+◌, ◌^◌, ◌<◌, ◌≤◌, true, ◌&&◌, eqb, ltb, leb, List, ◌++◌, length, drop, Some, None, Ok, Err, Option, Result, sym, refl, ap, ◌∙◌, subst, inl, inr, zero-add, arith}
use Rattle.std.proofs.lemmas.Bool.{and_parts, cases_Bool, eqb-true, leb-true, ltb-true}
use Rattle.std.specs.List.{AllByRecursion}
use Rattle.lines.specs.Bytes.{Bytes}
use Rattle.lines.specs.Coding.{Coding, Lawful}
use Rattle.records.specs.declared.heads.Head.{Head}
use Rattle.records.specs.declared.heads.Mode.{Mode}
use Rattle.records.specs.declared.heads.Mode.TheVariants.{Full, Partial}
use Rattle.records.specs.declared.image_lines.ImageLine.{ImageLine}
use Rattle.records.specs.Framing.{bytes_of, read}
use Rattle.records.specs.Heads.{head_record}
use Rattle.records.specs.ImageLines.{line_record}
use Rattle.records.specs.Numbers.{end_record}
use Rattle.records.proofs.HeadBytes.{head-lawful}
use Rattle.images.specs.declared.faults.Unlawful.{Unlawful}
use Rattle.images.specs.Images.{Content, head_of, writing, Rising, ByMode, LawfulImage, lines_bytes}
use Rattle.images.specs.Reading.{from_allowed, head_allowed, lines_from, with_head, behind_head, reading}
use Rattle.images.proofs.Accepted.{Finish, Walked, walked}
use Rattle.images.proofs.Accepted.Finish.{stopped, trailing, closed}
use Rattle.images.proofs.Fronts.{Due, complete-due, turns_rise, writing-parts}
use Rattle.images.proofs.Layouts.{bytes_behind, read_written}

-- what an image with the head h and the lines vs says
abbrev pub says : {L : Type 0} → Head → List (ImageLine L) → Content L
says h vs = record { mode = h.mode; n = h.n; from = h.from; point = h.point; lines = vs }

due-mode : {L : Type 0} (m : Mode) (h : Head) (vs : List (ImageLine L)) → from_allowed m h ≡ true → Due m (length vs) h.n → ByMode m (says h vs)
due-mode Full h vs from due = (eqb-true h.from 0 from, due)
due-mode Partial h vs from due = ltb-true h.from h.point from

module _ {L : Type 0} (f : Coding L) (lawful : Lawful f) (bs : List ℕ) (typed : Bytes bs) where
  -- a head that is allowed, at the front of bs
  pub record Begun (h : Head) (len : ℕ) : Type 0 where
    pub here : bs ≡ bytes_of head_record h ++ drop len bs
    pub same_head : (vs : List (ImageLine L)) → head_of f (says h vs) ≡ h
    pub few : h.n ≤ 1024
    pub passed : 1 ≤ h.point
    pub fits : h.point < 2 ^ 32
    pub long : len ≡ length (bytes_of head_record h)
    pub from : from_allowed h.mode h ≡ true

  pub begun : (h : Head) (len : ℕ) → read head_record bs ≡ Some (h, len) → head_allowed f h ≡ true → Begun h len
  begun h len e allowed =
      let was = read_written head_record head-lawful bs typed h len e in
      let a = and_parts (eqb h.code f.code) (leb h.n 1024 && (leb 1 h.point && from_allowed h.mode h)) allowed in
      let b = and_parts (leb h.n 1024) (leb 1 h.point && from_allowed h.mode h) a.1 in
      let c = and_parts (leb 1 h.point) (from_allowed h.mode h) b.1 in
      let x = and_parts (ltb h.code 256) (ltb h.n (2 ^ 16) && (ltb h.from (2 ^ 32) && ltb h.point (2 ^ 32))) was.0 in
      let y = and_parts (ltb h.n (2 ^ 16)) (ltb h.from (2 ^ 32) && ltb h.point (2 ^ 32)) x.1 in
      let z = and_parts (ltb h.from (2 ^ 32)) (ltb h.point (2 ^ 32)) y.1 in
      record {
        here = was.2;
        same_head = λ vs. ap (λ k. record { code = k; mode = h.mode; n = h.n; from = h.from; point = h.point }) (sym (eqb-true h.code f.code a.0));
        few = leb-true h.n 1024 b.0;
        passed = leb-true 1 h.point c.0;
        fits = ltb-true h.point (2 ^ 32) z.1;
        long = was.1;
        from = c.1;
      }

  pub lawful_says : (h : Head) (len : ℕ) (vs : List (ImageLine L)) → Begun h len → Rising 0 h.n vs → AllByRecursion (λ v. f.keeps v.line ≡ true) vs → Due h.mode (length vs) h.n → LawfulImage f (says h vs)
  lawful_says h len vs b rising kept due = record {
    few = b.few;
    passed = b.passed;
    fits = b.fits;
    by_mode = due-mode h.mode h vs b.from due;
    rising = rising;
    kept = kept;
  }

  -- the image that says so begins with what was seen
  pub says_parts : (h : Head) (len : ℕ) (vs : List (ImageLine L)) → Begun h len → writing f (says h vs) ≡ bytes_of head_record h ++ (lines_bytes f vs ++ bytes_of end_record (length vs))
  says_parts h len vs b = writing-parts f (says h vs) ∙ rw (b.same_head vs)

  whole : (h : Head) (len : ℕ) (r : Result (List (ImageLine L)) Unlawful) (c : Content L) → Begun h len → (w : Walked f h 0 0 len (drop len bs) r)
      → Finish h (0 + length w.seen) (len + length (lines_bytes f w.seen)) w.rest w.seen r → with_head h r ≡ Ok c → LawfulImage f c × (bs ≡ writing f c)
  whole h len r c b w (stopped e) ok = let wrong = sym (ap (with_head h) e) ∙ ok in absurd (cc)
  whole h len r c b w (trailing all is e) ok = let wrong = sym (ap (with_head h) e) ∙ ok in absurd (cc)
  whole h len r c b w (closed all is e) ok =
      let vs = w.seen in
      let right : Ok (says h vs) ≡ Ok c = sym (ap (with_head h) e) ∙ ok in
      let same : says h vs ≡ c = cc in
      let count : 0 + length vs ≡ length vs = zero-add (length vs) in
      let due : Due h.mode (length vs) h.n = complete-due h.mode h.n (length vs) (rw count at all) in
      let behind : drop len bs ≡ lines_bytes f vs ++ bytes_of end_record (length vs) = w.split ∙ ap (λ x. lines_bytes f vs ++ x) (rw count at is) in
      subst (λ d. LawfulImage f d × (bs ≡ writing f d)) same
      (lawful_says h len vs b (turns_rise h 0 vs w.turns) w.kept due, b.here ∙ rw behind (sym (says_parts h len vs b)))

  pub lines_walked : (h : Head) (len : ℕ) → Walked f h 0 0 len (drop len bs) (lines_from f h h.n 0 0 len (drop len bs))
  lines_walked h len = walked f lawful h h.n 0 0 len (drop len bs) (bytes_behind len bs typed) (omega arith) (omega arith) (read (line_record f) (drop len bs)) refl

  only_found : (c : Content L) (o : Option (Head × ℕ)) → read head_record bs ≡ o → behind_head f bs o ≡ Ok c → LawfulImage f c × (bs ≡ writing f c)
  only_found c None e ok = absurd (cc)
  only_found c (Some p) e ok = elim (cases_Bool (head_allowed f p.0)) [
    | inl allowed ↦
        let w = lines_walked p.0 p.1 in
        whole p.0 p.1 _ c (begun p.0 p.1 e allowed) w w.finish (rw allowed at ok)
    | inr other ↦ let wrong : Err _ ≡ Ok c = rw other at ok in absurd (cc)
  ]

  pub only : (c : Content L) → reading f bs ≡ Ok c → LawfulImage f c × (bs ≡ writing f c)
  unfolding reading
  only c ok = only_found c (read head_record bs) refl ok
