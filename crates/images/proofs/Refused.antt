-- Where an image is refused, a lawful one begins with what stands before; and the law of reading.
use Rattle.std.proofs.Common.{◌≡◌, ℕ, zero, suc, ◌+◌, ◌-◌, ◌≤◌, true, ltb, List, [], ◌∷◌, ◌++◌, map, length, take, drop, Some, None, Ok, Err, Option, Result, sym, refl, ap, ◌∙◌, subst, inl, inr, zero-add, arith}
use Rattle.std.proofs.ByRecursion.{All-append}
use Rattle.std.proofs.lemmas.List.{append_assoc, length-append, length-map, map-append, take_at, take_all}
use Rattle.std.proofs.lemmas.List.Folds.{flat_map-map}
use Rattle.std.proofs.lemmas.Bool.{and_parts, cases_Bool, eqb-true}
use Rattle.std.specs.List.{AllByRecursion}
use Rattle.lines.specs.Bytes.{Bytes}
use Rattle.lines.specs.Coding.{Coding, Lawful}
use Rattle.records.specs.declared.heads.Head.{Head}
use Rattle.records.specs.declared.heads.Mode.{Mode}
use Rattle.records.specs.declared.heads.Mode.TheVariants.{Full, Partial}
use Rattle.records.specs.declared.image_lines.ImageLine.{ImageLine}
use Rattle.records.specs.Framing.{bytes_of, read}
use Rattle.records.specs.Heads.{head_record}
use Rattle.records.specs.ImageLines.{line_record, numbered}
use Rattle.records.specs.Numbers.{end_record}
use Rattle.images.specs.declared.faults.Unlawful.{Unlawful}
use Rattle.images.specs.Images.{Content, flat, records, writing, Rising, LawfulImage, lines_bytes}
use Rattle.images.specs.Reading.{unlawful, follows, head_allowed, with_head, behind_head, reading, Front, OneImage}
use Rattle.images.proofs.Accepted.{Finish, Walked, length_end}
use Rattle.images.proofs.Accepted.Finish.{stopped, trailing, closed}
use Rattle.images.proofs.Fronts.{Turns, Due, turns_rise, rising_few, complete-due}
use Rattle.images.proofs.Only.{says, Begun, begun, lawful_says, says_parts, lines_walked, only}
use Rattle.images.proofs.Written.{back, most}

-- the number behind the last line
behind : {L : Type 0} → ℕ → List (ImageLine L) → ℕ
behind low [] = low
behind low (v ∷ vs) = behind (suc v.number) vs

rising-append : {L : Type 0} (low n : ℕ) (vs ws : List (ImageLine L)) → Rising low n vs → Rising (behind low vs) n ws → Rising low n (vs ++ ws)
unfolding behind
rising-append low n [] ws r s = s
rising-append low n (v ∷ vs) ws r s = (r.0, r.1, rising-append (suc v.number) n vs ws r.2 s)

behind_most : {L : Type 0} (low n : ℕ) (vs : List (ImageLine L)) → low ≤ n → Rising low n vs → behind low vs ≤ n
unfolding behind
behind_most low n [] h r = h
behind_most low n (v ∷ vs) h r = behind_most (suc v.number) n vs r.1 r.2

full_turn : (m : Mode) (low i : ℕ) → m ≡ Full → follows m low i ≡ true → i ≡ low
full_turn Full low i e t = eqb-true i low t
full_turn Partial low i e t = absurd (cc)

-- in a full image that is how many there were
behind_full : {L : Type 0} (h : Head) (low : ℕ) (vs : List (ImageLine L)) → h.mode ≡ Full → Turns h low vs → behind low vs ≡ low + length vs
unfolding behind
behind_full h low [] full t = omega arith
behind_full h low (v ∷ vs) full t =
    let p = and_parts (ltb v.number h.n) (follows h.mode low v.number) t.0 in
    let same = full_turn h.mode low v.number full p.1 in
    omega (arith, behind_full h (suc v.number) vs full t.1)

-- m lines x, numbered from i on
fill : {L : Type 0} → L → ℕ → ℕ → List (ImageLine L)
fill x i zero = []
fill x i (suc m) = numbered i x ∷ fill x (suc i) m

length_fill : {L : Type 0} (x : L) (i m : ℕ) → length (fill x i m) ≡ m
unfolding fill
length_fill x i zero = refl
length_fill x i (suc m) = ap suc (length_fill x (suc i) m)

fill_rises : {L : Type 0} (x : L) (i m n : ℕ) → i + m ≤ n → Rising i n (fill x i m)
unfolding fill
fill_rises x i zero n h = tt
fill_rises x i (suc m) n h = (omega arith, omega arith, fill_rises x (suc i) m n (omega arith))

fill_kept : {L : Type 0} (f : Coding L) (x : L) (i m : ℕ) → f.keeps x ≡ true → AllByRecursion (λ v. f.keeps v.line ≡ true) (fill x i m)
unfolding fill
fill_kept f x i zero k = tt
fill_kept f x i (suc m) k = (k, fill_kept f x (suc i) m k)

-- the records up to those lines
front_lines : {L : Type 0} (f : Coding L) (vs ws : List (ImageLine L)) (end : List ℕ)
    → flat (take (length vs) (map (bytes_of (line_record f)) (vs ++ ws) ++ end ∷ [])) ≡ lines_bytes f vs
front_lines f vs ws end =
    let g = bytes_of (line_record f) in
    let parts : map g (vs ++ ws) ++ end ∷ [] ≡ map g vs ++ (map g ws ++ end ∷ []) = rw (map-append g vs ws, append_assoc (map g vs) (map g ws) (end ∷ [])) in
    rw (parts, take_at (map g vs) (map g ws ++ end ∷ []) (length vs) (length-map vs g), flat_map-map (λ r. r) g vs)

module _ {L : Type 0} (f : Coding L) (lawful : Lawful f) (bs : List ℕ) (typed : Bytes bs) where
  -- every image begins with nothing
  nothing : Front f bs 0
  nothing = record {
    content = record { mode = Full; n = 0; from = 0; point = 1; lines = [] };
    lawful = record { few = omega arith; passed = omega arith; fits = omega arith; by_mode = (refl, refl); rising = tt; kept = tt };
    count = 0;
    rest = bs;
    front = refl;
    long = refl;
  }

  module _ (h : Head) (len : ℕ) (b : Begun f lawful bs typed h len) (r : Result (List (ImageLine L)) Unlawful) (w : Walked f h 0 0 len (drop len bs) r) where
    -- lines that complete those seen
    module _ (x : L) (keeps : f.keeps x ≡ true) where
      missing : ℕ
      missing = h.n - behind 0 w.seen

      lines : List (ImageLine L)
      lines = w.seen ++ fill x (behind 0 w.seen) missing

      all-due : (m : Mode) → h.mode ≡ m → Due m (length lines) h.n
      unfolding lines missing
      all-due Full e =
          let vs = w.seen in
          let full = behind_full h 0 vs e w.turns in
          let few = rising_few 0 h.n vs (omega arith) (turns_rise h 0 vs w.turns) in
          omega (arith, length-append vs (fill x (behind 0 vs) (h.n - behind 0 vs)), length_fill x (behind 0 vs) (h.n - behind 0 vs))
      all-due Partial e = tt

      complete_lines : LawfulImage f (says h lines)
      unfolding lines missing
      complete_lines =
          let vs = w.seen in
          let at = behind 0 vs in
          let rise = turns_rise h 0 vs w.turns in
          let within = behind_most 0 h.n vs (omega arith) rise in
          lawful_says f lawful bs typed h len lines b
          (rising-append 0 h.n vs (fill x at missing) rise (fill_rises x at missing h.n (omega arith)))
          (All-append (λ v. f.keeps v.line ≡ true) vs (fill x at missing) w.kept (fill_kept f x at missing keeps))
          (all-due h.mode refl)

      seen_front : Front f bs (len + length (lines_bytes f w.seen))
      unfolding lines
      seen_front =
          let vs = w.seen in
          let head = bytes_of head_record h in
          let is : flat (take (suc (length vs)) (records f (says h lines))) ≡ head ++ lines_bytes f vs =
          rw (b.same_head lines, front_lines f vs (fill x (behind 0 vs) missing) (bytes_of end_record (length lines))) in
          record {
            content = says h lines;
            lawful = complete_lines;
            count = suc (length vs);
            rest = w.rest;
            front = rw is (b.here ∙ ap (λ y. head ++ y) w.split ∙ sym (append_assoc head (lines_bytes f vs) w.rest));
            long = rw is (omega (arith, length-append head (lines_bytes f vs), b.long));
          }

    whole_front : Due h.mode (length w.seen) h.n → w.rest ≡ bytes_of end_record (length w.seen) ++ drop 6 w.rest → Front f bs ((len + length (lines_bytes f w.seen)) + 6)
    unfolding writing
    whole_front due split =
        let vs = w.seen in
        let g = bytes_of (line_record f) in
        let head = bytes_of head_record h in
        let end = bytes_of end_record (length vs) in
        let some : length (map g vs ++ end ∷ []) ≤ suc (length vs) = omega (arith, length-append (map g vs) (end ∷ []), length-map vs g) in
        let is : flat (take (suc (suc (length vs))) (records f (says h vs))) ≡ head ++ (lines_bytes f vs ++ end) =
        rw (take_all (suc (length vs)) (map g vs ++ end ∷ []) some) (says_parts f lawful bs typed h len vs b) in
        let there : drop len bs ≡ (lines_bytes f vs ++ end) ++ drop 6 w.rest = w.split ∙ ap (λ y. lines_bytes f vs ++ y) split ∙ sym (append_assoc (lines_bytes f vs) end (drop 6 w.rest)) in
        record {
          content = says h vs;
          lawful = lawful_says f lawful bs typed h len vs b (turns_rise h 0 vs w.turns) w.kept due;
          count = suc (suc (length vs));
          rest = drop 6 w.rest;
          front = rw is (b.here ∙ ap (λ y. head ++ y) there ∙ sym (append_assoc head (lines_bytes f vs ++ end) (drop 6 w.rest)));
          long = rw is (omega (arith, length-append head (lines_bytes f vs ++ end), length-append (lines_bytes f vs) end, length_end (length vs), b.long));
        }

    refused_walk : (o : ℕ) → Finish h (0 + length w.seen) (len + length (lines_bytes f w.seen)) w.rest w.seen r → with_head h r ≡ Err (unlawful o) → (x : L) → f.keeps x ≡ true → Front f bs o
    refused_walk o (stopped e) err x keeps =
        let at = len + length (lines_bytes f w.seen) in
        let told : Err (unlawful at) ≡ Err (unlawful o) = sym (ap (with_head h) e) ∙ err in
        let u : unlawful at ≡ unlawful o = cc in
        subst (λ p. Front f bs p) (ap (λ y. y.offset) u) (seen_front x keeps)
    refused_walk o (trailing all is e) err x keeps =
        let at = len + length (lines_bytes f w.seen) in
        let told : Err (unlawful (at + 6)) ≡ Err (unlawful o) = sym (ap (with_head h) e) ∙ err in
        let u : unlawful (at + 6) ≡ unlawful o = cc in
        let count : 0 + length w.seen ≡ length w.seen = zero-add (length w.seen) in
        subst (λ p. Front f bs p) (ap (λ y. y.offset) u) (whole_front (complete-due h.mode h.n (length w.seen) (rw count at all)) (rw count at is))
    refused_walk o (closed all is e) err x keeps =
        let wrong : Ok (says h w.seen) ≡ Err (unlawful o) = sym (ap (with_head h) e) ∙ err in
        absurd (cc)

  at_start : (o : ℕ) → ◌≡◌ {A = Result (Content L) Unlawful} (Err (unlawful 0)) (Err (unlawful o)) → Front f bs o
  at_start o e = let u : unlawful 0 ≡ unlawful o = cc in subst (λ p. Front f bs p) (ap (λ y. y.offset) u) nothing

  refused : (o : ℕ) (p : Option (Head × ℕ)) → read head_record bs ≡ p → behind_head f bs p ≡ Err (unlawful o) → (x : L) → f.keeps x ≡ true → Front f bs o
  refused o None e err x keeps = at_start o err
  refused o (Some p) e err x keeps = elim (cases_Bool (head_allowed f p.0)) [
    | inl allowed ↦
        let w = lines_walked f lawful bs typed p.0 p.1 in
        refused_walk p.0 p.1 (begun f lawful bs typed p.0 p.1 e allowed) _ w o w.finish (rw allowed at err) x keeps
    | inr other ↦ at_start o (rw other at err)
  ]

  pub one_image : OneImage f bs
  unfolding reading
  one_image = record {
    back = λ c image e. back f lawful c image bs typed e;
    only = only f lawful bs typed;
    front = λ o err x keeps. refused o (read head_record bs) refl err x keeps;
    most = λ o err c k rest image e. most f lawful c image bs o typed err k rest e;
  }
