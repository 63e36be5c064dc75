-- Changes as bytes: they read back one behind the other, and bytes that read as changes are their bytes.
use Rattle.std.proofs.Common.{◌≡◌, ℕ, zero, suc, ◌+◌, ◌*◌, ◌/◌, ◌%◌, ◌^◌, ◌<◌, ◌≤◌, true, ◌&&◌, eqb, ltb, leb, ◌⊎◌, List, [], ◌∷◌, ◌++◌, length, get_or, take, drop, Some, None, sym, refl, ap, ◌∙◌, inl, inr, add-one, arith}
use Rattle.std.proofs.ByRecursion.{All-drop}
use Rattle.std.proofs.lemmas.List.{length-append, length-drop, append_assoc, take_at, take-take, drop-take, drop_at, drop-drop, nil_from_length, take_more, length-take-le, take-append-drop}
use Rattle.std.proofs.lemmas.Bool.{cases_Bool, and_parts, and_from, eqb-true, eq-eqb, leb-true, le-leb, lt-leb, lt-ltb, ne_eqb, and_right}
use Rattle.std.proofs.lemmas.Bool.Decides.{nat_tests}
use Rattle.std.specs.Simd.{first_chunks}
use Rattle.lines.specs.Bytes.{Bytes, le}
use Rattle.lines.specs.declared.changes.Change.{Change}
use Rattle.lines.proofs.LittleEndian.{length-le, bytes_le}
use Rattle.lines.proofs.Payloads.{bytes_two}
use Rattle.records.specs.Changes.{change_bytes, change_in, changes_in, changes_bytes, changes_of_bytes, change_fits, changes_fit}
use Rattle.records.specs.Commands.{pushed}
use Rattle.records.specs.Numbers.{field}
use Rattle.records.proofs.Framed.{bytes-append}
use Rattle.records.proofs.FieldBytes.{field_here, field_behind, field_again, field_lt}

pub length-change : (c : Change) → length (change_bytes c) ≡ 7
unfolding change_bytes
length-change c = simp (length-append, length-le)

pub length-changes_bytes : (cs : List Change) → length (changes_bytes cs) ≡ 7 * length cs
length-changes_bytes [] = refl
length-changes_bytes (c ∷ cs) = simp length-append (omega (arith, length-change c, length-changes_bytes cs))

bytes-change : (c : Change) → Bytes (change_bytes c)
unfolding change_bytes
bytes-change c = bytes-append (le 2 c.line) _ (bytes_le 2 c.line) (bytes_two 1 4 c.kind c.amount)

pub bytes-changes : (cs : List Change) → Bytes (changes_bytes cs)
bytes-changes [] = tt
bytes-changes (c ∷ cs) = bytes-append (change_bytes c) (changes_bytes cs) (bytes-change c) (bytes-changes cs)

length-changes_in : (n : ℕ) (bs : List ℕ) → length (changes_in n bs) ≡ n
length-changes_in zero bs = refl
length-changes_in (suc n) bs = ap suc (length-changes_in n (drop 7 bs))

-- one change in front of others
change_back : (c : Change) (rest : List ℕ) → change_fits c ≡ true → change_in (change_bytes c ++ rest) ≡ c
unfolding change_bytes
change_back c rest fits =
    let small : (c.line < 2 ^ 16) × (c.kind < 256) × (c.amount < 2 ^ 32) = grind (arith, nat_tests) in
    let r₂ = le 4 c.amount ++ rest in
    let r₁ = le 1 c.kind ++ r₂ in
    let bs = le 2 c.line ++ r₁ in
    let parts : (le 2 c.line ++ (le 1 c.kind ++ le 4 c.amount)) ++ rest ≡ bs = simp append_assoc in
    let line : field 0 2 bs ≡ c.line = field_here 2 c.line r₁ small.0 in
    let kind : field 2 1 bs ≡ c.kind = field_behind 0 1 2 c.line r₁ ∙ field_here 1 c.kind r₂ small.1 in
    let amount : field 3 4 bs ≡ c.amount = field_behind 1 4 2 c.line r₁ ∙ field_behind 0 4 1 c.kind r₂ ∙ field_here 4 c.amount rest small.2 in
    rw (parts, line, kind, amount)

change_again : (bs : List ℕ) → Bytes bs → 7 ≤ length bs → (change_fits (change_in bs) ≡ true) × (change_bytes (change_in bs) ++ drop 7 bs ≡ bs)
unfolding change_bytes
change_again bs typed long =
    let line = field_lt 0 2 bs typed (omega arith) in
    let kind = field_lt 2 1 bs typed (omega arith) in
    let amount = field_lt 3 4 bs typed (omega arith) in
    (grind (arith, nat_tests), simp append_assoc (rw (field_again 3 4 bs typed (omega arith), field_again 2 1 bs typed (omega arith), field_again 0 2 bs typed (omega arith))))

changes_back : (cs : List Change) → changes_fit cs ≡ true → changes_in (length cs) (changes_bytes cs) ≡ cs
changes_back [] fits = refl
changes_back (c ∷ cs) fits =
    let p = and_parts (change_fits c) (changes_fit cs) fits in
    rw (change_back c (changes_bytes cs) p.0, drop_at (change_bytes c) (changes_bytes cs) 7 (length-change c), changes_back cs p.1)

changes_again : (n : ℕ) (bs : List ℕ) → Bytes bs → length bs ≡ 7 * n → (changes_fit (changes_in n bs) ≡ true) × (changes_bytes (changes_in n bs) ≡ bs)
changes_again zero bs typed long = (refl, sym (nil_from_length bs long))
changes_again (suc n) bs typed long =
    let first = change_again bs typed (omega arith) in
    let rest = changes_again n (drop 7 bs) (All-drop (λ b. b < 256) 7 bs typed) (simp length-drop (omega arith)) in
    (and_from (change_fits (change_in bs)) (changes_fit (changes_in n (drop 7 bs))) first.0 rest.0, rw rest.1 first.1)

-- one change more
more : (i : ℕ) (bs : List ℕ) → changes_in (suc i) bs ≡ changes_in i bs ++ change_in (drop (7 * i) bs) ∷ []
more zero bs = refl
more (suc i) bs =
    let next : 7 + 7 * i ≡ 7 * suc i = omega arith in
    let here : drop (7 * i) (drop 7 bs) ≡ drop (7 * suc i) bs = drop-drop (7 * i) 7 bs ∙ ap (λ n. drop n bs) next in
    ap (λ cs. change_in bs ∷ cs) (more i (drop 7 bs) ∙ ap (λ xs. changes_in i (drop 7 bs) ++ change_in xs ∷ []) here)

pub changes_more : (i : ℕ) (bs : List ℕ) → changes_in (i + 1) bs ≡ changes_in i bs ++ change_in (drop (7 * i) bs) ∷ []
changes_more i bs = rw add-one (more i bs)

command-append : (cs ds : List Change) → changes_bytes (cs ++ ds) ≡ changes_bytes cs ++ changes_bytes ds
command-append [] ds = refl
command-append (c ∷ cs) ds = rw (command-append cs ds) (sym (append_assoc (change_bytes c) (changes_bytes cs) (changes_bytes ds)))

changes_fit-append : (cs ds : List Change) → changes_fit cs ≡ true → changes_fit ds ≡ true → changes_fit (cs ++ ds) ≡ true
changes_fit-append [] ds h k = k
changes_fit-append (c ∷ cs) ds h k =
    let p = and_parts (change_fits c) (changes_fit cs) h in
    and_from (change_fits c) (changes_fit (cs ++ ds)) p.0 (changes_fit-append cs ds p.1 k)

pub changes_fit_more : (cs : List Change) (i : ℕ) (d : Change) → i < length cs → changes_fit (take i cs) ≡ true → change_fits (get_or cs i d) ≡ true → changes_fit (take (i + 1) cs) ≡ true
changes_fit_more cs i d inside h k =
    rw (take_more cs i d inside) (changes_fit-append (take i cs) (get_or cs i d ∷ []) h (and_from (change_fits (get_or cs i d)) true k refl))

pub changes_fit-take : (n : ℕ) (cs : List Change) → changes_fit cs ≡ true → changes_fit (take n cs) ≡ true
changes_fit-take zero cs h = refl
changes_fit-take (suc n) [] h = refl
changes_fit-take (suc n) (c ∷ cs) h =
    let p = and_parts (change_fits c) (changes_fit cs) h in
    and_from (change_fits c) (changes_fit (take n cs)) p.0 (changes_fit-take n cs p.1)

-- the changes of the first slots stand at the front of those of all
pub command_front : (n : ℕ) (cs : List Change) → n ≤ length cs → take (7 * n) (changes_bytes cs) ≡ changes_bytes (take n cs)
command_front n cs few =
    let front = changes_bytes (take n cs) in
    let parts : changes_bytes cs ≡ front ++ changes_bytes (drop n cs) = ap changes_bytes (sym (take-append-drop n cs)) ∙ command-append (take n cs) (drop n cs) in
    rw parts (take_at front (changes_bytes (drop n cs)) (7 * n) (length-changes_bytes (take n cs) ∙ ap (λ m. 7 * m) (length-take-le n cs few)))

pub read-changes : (cs : List Change) → length cs ≤ 4 → changes_fit cs ≡ true → changes_of_bytes (changes_bytes cs) ≡ Some cs
unfolding changes_of_bytes
read-changes cs few fits =
    let long = length-changes_bytes cs in
    let most : leb (length (changes_bytes cs)) 28 ≡ true = le-leb (length (changes_bytes cs)) 28 (omega arith) in
    let even : eqb (length (changes_bytes cs) % 7) 0 ≡ true = eq-eqb (length (changes_bytes cs) % 7) 0 (omega arith) in
    let count : length (changes_bytes cs) / 7 ≡ length cs = omega arith in
    rw (most, even, count, changes_back cs fits)

pub read_changes_only : (bs : List ℕ) (cs : List Change) → Bytes bs → changes_of_bytes bs ≡ Some cs → (length cs ≤ 4) × (changes_fit cs ≡ true) × (changes_bytes cs ≡ bs)
unfolding changes_of_bytes
read_changes_only bs cs typed some = elim (cases_Bool (leb (length bs) 28 && eqb (length bs % 7) 0)) [
  | inl t ↦
      let n = length bs / 7 in
      let p = and_parts (leb (length bs) 28) (eqb (length bs % 7) 0) t in
      let most = leb-true (length bs) 28 p.0 in
      let even = eqb-true (length bs % 7) 0 p.1 in
      let e : Some (changes_in n bs) ≡ Some cs = rw t at some in
      let same : changes_in n bs ≡ cs = cc in
      let again = changes_again n bs typed (omega arith) in
      (omega (arith, length-changes_in n bs, ap length same), rw same at again.0, rw same at again.1)
  | inr f ↦ let e : None ≡ Some cs = rw f at some in absurd (cc)
]

-- what a reader of a body finds: nothing, or as many changes as there are sevens
pub command_refused : (bs : List ℕ) → (28 < length bs) ⊎ (length bs % 7 ≡ 0 → ⊥) → None ≡ changes_of_bytes bs
unfolding changes_of_bytes
command_refused bs (inl long) = rw (lt-leb (length bs) 28 long)
command_refused bs (inr odd) = rw (and_right (leb (length bs) 28) (eqb (length bs % 7) 0) (ne_eqb (length bs % 7) 0 odd))

pub command-read : (bs : List ℕ) → length bs ≤ 28 → length bs % 7 ≡ 0 → Some (changes_in (length bs / 7) bs) ≡ changes_of_bytes bs
unfolding changes_of_bytes
command-read bs most even = rw (le-leb (length bs) 28 most, eq-eqb (length bs % 7) 0 even)

-- the change of the first seven bytes is the change that all begin with
change_in_front : (bs : List ℕ) → change_in (take 7 bs) ≡ change_in bs
change_in_front bs =
    let line : take 2 (take 7 bs) ≡ take 2 bs = take-take 2 7 bs (omega arith) in
    let kind : take 1 (drop 2 (take 7 bs)) ≡ take 1 (drop 2 bs) = ap (take 1) (drop-take 2 5 bs) ∙ take-take 1 5 (drop 2 bs) (omega arith) in
    let amount : take 4 (drop 3 (take 7 bs)) ≡ take 4 (drop 3 bs) = ap (take 4) (drop-take 3 4 bs) ∙ take-take 4 4 (drop 3 bs) (omega arith) in
    rw (line, kind, amount)

-- the seven bytes at a place
slot : (n i : ℕ) (bs d : List ℕ) → i < n → get_or (first_chunks 7 n bs) i d ≡ take 7 (drop (7 * i) bs)
slot zero i bs d h = absurd (omega arith)
slot (suc n) zero bs d h = refl
slot (suc n) (suc i) bs d h =
    let next : 7 + 7 * i ≡ 7 * suc i = omega arith in
    slot n i (drop 7 bs) d (omega arith) ∙ ap (take 7) (drop-drop (7 * i) 7 bs ∙ ap (λ m. drop m bs) next)

pub length-slots : (n : ℕ) (bs : List ℕ) → length (first_chunks 7 n bs) ≡ n
length-slots zero bs = refl
length-slots (suc n) bs = ap suc (length-slots n (drop 7 bs))

-- a change that was read is pushed onto those before it
pub command_step : (n : ℕ) (bs d : List ℕ) (i : ℕ) (cs ds : List Change) → i < n → i < 4 → cs ≡ changes_in i bs
    → ds ≡ pushed cs (change_in (get_or (first_chunks 7 n bs) i d)) → ds ≡ changes_in (i + 1) bs
command_step n bs d i cs ds inside few so_far push =
    let here : change_in (get_or (first_chunks 7 n bs) i d) ≡ change_in (drop (7 * i) bs) = ap change_in (slot n i bs d inside) ∙ change_in_front (drop (7 * i) bs) in
    let test : ltb (length cs) 4 ≡ true = lt-ltb (length cs) 4 (omega (arith, length-changes_in i bs, ap length so_far)) in
    let pushed_on : ds ≡ cs ++ change_in (get_or (first_chunks 7 n bs) i d) ∷ [] = rw test at push in
    pushed_on ∙ rw (so_far, here) (sym (changes_more i bs))
