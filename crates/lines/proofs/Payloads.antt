-- What every payload of two numbers owes: that it is written whole, and that it has one reading.
use Rattle.std.proofs.Common.{◌≡◌, ℕ, ◌+◌, ◌-◌, ◌^◌, ◌<◌, ◌≤◌, Bool, true, cond, ◌&&◌, eqb, List, [], ◌∷◌, ◌++◌, length, take, drop, Some, None, Option, sym, refl, ap, ◌∙◌, inl, inr, arith}
use borrow.Rule.Slice.PartMut.{put_mid}
use Rattle.std.proofs.ByRecursion.{All-append, All-take, All-drop}
use Rattle.std.proofs.lemmas.List.{length-append, length-take, length-drop, take_at, drop_at, take-append-drop, append_assoc, append-nil, drop_all, drop-drop}
use Rattle.std.proofs.lemmas.Bool.{and_parts, and_from, and_right, cases_Bool, eqb-true, eq-eqb, ne_eqb, le-leb, lt-leb}
use Rattle.lines.specs.Bytes.{Bytes, le, number, same, put, room, whole, both}
use Rattle.lines.specs.Coding.{read_by}
use Rattle.lines.proofs.LittleEndian.{length-le, bytes_le, number-le, le-number}

pub same_refl : (bs : List ℕ) → same bs bs ≡ true
same_refl [] = refl
same_refl (b ∷ bs) = and_from (eqb b b) (same bs bs) (eq-eqb b b refl) (same_refl bs)

pub same_true : (bs cs : List ℕ) → same bs cs ≡ true → bs ≡ cs
same_true [] [] h = refl
same_true [] (c ∷ cs) h = cc
same_true (b ∷ bs) [] h = cc
same_true (b ∷ bs) (c ∷ cs) h =
    let p = and_parts (eqb b c) (same bs cs) h in
    let first : b ≡ c = eqb-true b c p.0 in
    let rest : bs ≡ cs = same_true bs cs p.1 in
    cc

-- The reading laws of a kind whose bytes decode by `decode`.
module _ {L : Type 0} (decode : List ℕ → L) (keeps : L → Bool) (payload : L → List ℕ) where
  -- a payload that decodes to its line is read as it
  pub read_back : (x : L) → decode (payload x) ≡ x → keeps x ≡ true → read_by decode keeps payload (payload x) ≡ Some x
  read_back x e k = rw (e, k, same_refl (payload x))

  pub read_only : (bs : List ℕ) (x : L) → read_by decode keeps payload bs ≡ Some x → (keeps x ≡ true) × (payload x ≡ bs)
  read_only bs x h =
      elim (cases_Bool (keeps (decode bs) && same (payload (decode bs)) bs)) [
        | inl t ↦
            let p = and_parts (keeps (decode bs)) (same (payload (decode bs)) bs) t in
            let e : decode bs ≡ x = cc in
            (rw e at p.0, rw e at (same_true (payload (decode bs)) bs p.1))
        | inr f ↦ absurd (cc)
      ]

  -- bytes that are no payload of what they decode to are not read
  pub read_none : (bs : List ℕ) → (length (payload (decode bs)) ≡ length bs → ⊥) → read_by decode keeps payload bs ≡ None
  read_none bs h =
      elim (cases_Bool (same (payload (decode bs)) bs)) [
        | inl t ↦ absurd (h (ap length (same_true (payload (decode bs)) bs t)))
        | inr f ↦ rw (and_right (keeps (decode bs)) (same (payload (decode bs)) bs) f)
      ]

  -- bytes that are the payload of what they decode to are read by the rule
  pub read_kept : (bs : List ℕ) (x : L) → payload (decode bs) ≡ bs → decode bs ≡ x → read_by decode keeps payload bs ≡ cond (keeps x) (Some x) None
  read_kept bs x e d =
      let written : same (payload (decode bs)) bs ≡ true = rw e (same_refl bs) in
      rw (written, d) (elim (cases_Bool (keeps x)) [ inl t ↦ rw t | inr f ↦ rw f ])

-- Two numbers of j and of k bytes, one behind the other.
module _ (j k : ℕ) where
  pub length_two : (m n : ℕ) → length (le j m ++ le k n) ≡ j + k
  length_two m n = rw (length-append, length-le j m, length-le k n)

  pub bytes_two : (m n : ℕ) → Bytes (le j m ++ le k n)
  bytes_two m n = All-append (λ b. b < 256) (le j m) (le k n) (bytes_le j m) (bytes_le k n)

  pub first_of_two : (m n : ℕ) → m < 256 ^ j → number (take j (le j m ++ le k n)) ≡ m
  first_of_two m n h = rw (take_at (le j m) (le k n) j (length-le j m), number-le j m h)

  pub second_of_two : (m n : ℕ) → n < 256 ^ k → number (drop j (le j m ++ le k n)) ≡ n
  second_of_two m n h = rw (drop_at (le j m) (le k n) j (length-le j m), number-le k n h)

  -- the numbers that bytes hold are written as those bytes
  pub two_again : (bs : List ℕ) → Bytes bs → length bs ≡ j + k → le j (number (take j bs)) ++ le k (number (drop j bs)) ≡ bs
  two_again bs h e =
      let front : length (take j bs) ≡ j = simp length-take (omega arith) in
      let back : length (drop j bs) ≡ k = simp length-drop (omega arith) in
      let first = le-number (take j bs) (All-take (λ b. b < 256) j bs h) in
      let second = le-number (drop j bs) (All-drop (λ b. b < 256) j bs h) in
      rw (rw front at first, rw back at second) (take-append-drop j bs)

-- Two numbers are read from just as many bytes as they take.
module _ (j k : ℕ) where
  abbrev read_two : List ℕ → Option (ℕ × ℕ)
  read_two bs = both (whole j (take j bs)) (whole k (drop j bs))

  two_there : (bs : List ℕ) → length bs ≡ j + k → read_two bs ≡ Some (number (take j bs), number (drop j bs))
  two_there bs e =
      let front : eqb (length (take j bs)) j ≡ true = eq-eqb (length (take j bs)) j (simp length-take (omega arith)) in
      let back : eqb (length (drop j bs)) k ≡ true = eq-eqb (length (drop j bs)) k (simp length-drop (omega arith)) in
      rw (front, back)

  two_not_there : (bs : List ℕ) → (length bs ≡ j + k → ⊥) → read_two bs ≡ None
  two_not_there bs h = elim (cases_Bool (eqb (length (take j bs)) j)) [
    | inl t ↦
        let front : length (take j bs) ≡ j = eqb-true (length (take j bs)) j t in
        let parts : length (take j bs) + length (drop j bs) ≡ length bs = sym (length-append (take j bs) (drop j bs)) ∙ ap length (take-append-drop j bs) in
        rw (t, ne_eqb (length (drop j bs)) k (λ e. h (omega arith)))
    | inr f ↦ rw f
  ]

  -- The reading of a kind whose payload is such two numbers.
  module _ {L : Type 0} (decode : List ℕ → L) (keeps : L → Bool) (payload : L → List ℕ) (bs : List ℕ) where
    pub unread : length (payload (decode bs)) ≡ j + k → None ≡ read_two bs → read_by decode keeps payload bs ≡ None
    unread long none = read_none decode keeps payload bs (λ e.
        let there = two_there bs (sym e ∙ long) in
        absurd (cc))

    pub was_read : (m n : ℕ) → Some (m, n) ≡ read_two bs → (length bs ≡ j + k) × (number (take j bs) ≡ m) × (number (drop j bs) ≡ n)
    was_read m n some = elim (cases_Bool (eqb (length bs) (j + k))) [
      | inl t ↦
          let long = eqb-true (length bs) (j + k) t in
          let e : ◌≡◌ {A = Option (ℕ × ℕ)} (Some (m, n)) (Some (number (take j bs), number (drop j bs))) = some ∙ two_there bs long in
          let p : ◌≡◌ {A = ℕ × ℕ} (number (take j bs), number (drop j bs)) (m, n) = cc in
          (long, ap (λ q. q.0) p, ap (λ q. q.1) p)
      | inr f ↦
          let none = two_not_there bs (λ e. let g = eq-eqb (length bs) (j + k) e in absurd (cc)) in
          absurd (cc)
    ]

-- two parts written one behind the other at the front of memory
pub two_parts : (j k : ℕ) (bs cs m : List ℕ) → length bs ≡ j → length cs ≡ k → put_mid j k (bs ++ drop j m) cs ≡ (bs ++ cs) ++ drop (j + k) m
two_parts j k bs cs m e f = rw (take_at bs (drop j m) j e, drop_at bs (drop j m) j e, drop-drop k j m, append_assoc bs cs (drop (j + k) m))

-- bytes that fit are put at the front of memory; others leave it as it is
pub put_fits : (bs m : List ℕ) → length bs ≤ length m → (room bs m ≡ Some (length bs)) × (put bs m ≡ bs ++ drop (length bs) m)
put_fits bs m h = let t = le-leb (length bs) (length m) h in (rw t, rw t)

pub put-short : (bs m : List ℕ) → length m < length bs → (room bs m ≡ None) × (put bs m ≡ m)
put-short bs m h = let t = lt-leb (length bs) (length m) h in (rw t, rw t)

-- bytes that fill memory are all that it holds
pub put_whole : (bs m : List ℕ) → length bs ≡ length m → put bs m ≡ bs
put_whole bs m e =
    let none : drop (length bs) m ≡ [] = drop_all (length bs) m (omega arith) in
    (put_fits bs m (omega arith)).1 ∙ rw none (append-nil bs)

-- bytes put behind others that were put at the front of memory
pub put_behind : (n : ℕ) (front body m : List ℕ) → length front ≡ n → n + length body ≤ length m
    → put_mid n (length (put front m) - n) (put front m) (put body (drop n (put front m))) ≡ put (front ++ body) m
put_behind n front body m e h =
    let first : put front m ≡ front ++ drop n m = (put_fits front m (omega arith)).1 ∙ rw e in
    let second : put body (drop n m) ≡ body ++ drop (length body) (drop n m) = (put_fits body (drop n m) (simp length-drop (omega arith))).1 in
    let long : length (front ++ body) ≡ n + length body = simp length-append (omega arith) in
    let all : put (front ++ body) m ≡ (front ++ body) ++ drop (n + length body) m = (put_fits (front ++ body) m (omega arith)).1 ∙ rw long in
    let none : drop (length (front ++ drop n m) - n) (drop n m) ≡ [] = drop_all _ (drop n m) (simp (length-append, length-drop) (omega arith)) in
    rw (first, take_at front (drop n m) n e, drop_at front (drop n m) n e, second, none, all) (simp (append_assoc, append-nil, drop-drop))
