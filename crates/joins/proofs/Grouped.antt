-- Joining is associative, and so every way of bracketing a list of images gives the same.
use Rattle.std.proofs.Common.{◌≡◌, ℕ, true, cond, List, [], ◌∷◌, ◌++◌, map, length, Some, None, Ok, Err, Option, Result, sym, refl, ap, ◌∙◌, subst, inl, inr, arith}
use Rattle.std.proofs.lemmas.List.{length-append, map-append}
use Rattle.std.proofs.lemmas.Bool.{cases_Bool}
use Rattle.std.specs.Option.{option_map}
use Rattle.std.specs.List.{AllByRecursion}
use Rattle.lines.specs.Bytes.{Bytes}
use Rattle.lines.specs.Coding.{Coding, Lawful}
use Rattle.images.specs.declared.faults.Unlawful.{Unlawful}
use Rattle.images.specs.Images.{Content, LawfulImage, writing}
use Rattle.joins.specs.Joining.{line_of, newer, joined_lines, join, joins, join_read, accepted, join_both, Tree, leaves, value, Grouping}
use Rattle.joins.specs.Joining.Tree.{image, pair}
use Rattle.images.specs.Reading.{reading}
use Rattle.joins.proofs.Joined.{joins-parts, join-lawful, bytes-writing}
use Rattle.joins.proofs.Listing.{listed_same, line_of-listed}
use Rattle.images.proofs.Only.{only}
use Rattle.images.proofs.Written.{back}

module _ {L : Type 0} where
  newer_assoc : (x y z : Option L) → newer z (newer y x) ≡ newer (newer z y) x
  newer_assoc x y None = refl
  newer_assoc x y (Some z) = refl

  join_assoc : (a b c : Content L) → a.n ≡ b.n → join (join a b) c ≡ join a (join b c)
  join_assoc a b c same =
      let n = a.n in
      let ab = joined_lines n a.lines b.lines in
      let bc = joined_lines n b.lines c.lines in
      let lines : joined_lines n ab c.lines ≡ joined_lines n a.lines bc =
      listed_same (λ i. newer (line_of c.lines i) (line_of ab i)) (λ i. newer (line_of bc i) (line_of a.lines i)) 0 n
      (λ i h k. rw (line_of-listed (λ j. newer (line_of b.lines j) (line_of a.lines j)) 0 n i h k, line_of-listed (λ j. newer (line_of c.lines j) (line_of b.lines j)) 0 n i h k)
      (newer_assoc (line_of a.lines i) (line_of b.lines i) (line_of c.lines i))) in
      let whole : joined_lines n ab c.lines ≡ joined_lines n a.lines (joined_lines b.n b.lines c.lines) = rw (← same) lines in
      ap (λ vs. record { mode = a.mode; n = n; from = a.from; point = c.point; lines = vs }) whole

  -- the join of what two images say, if they join
  abbrev merge : Option (Content L) → Option (Content L) → Option (Content L)
  merge None y = None
  merge (Some a) None = None
  merge (Some a) (Some b) = cond (joins a b) (Some (join a b)) None

  merge_none : (x : Option (Content L)) → merge x None ≡ None
  merge_none None = refl
  merge_none (Some a) = refl

  -- once the first two join, the third joins their join just as it joins the second
  joins_on : (a b c : Content L) → joins a b ≡ true → joins (join a b) c ≡ joins b c
  joins_on a b c fit = rw (joins-parts a b fit).0

  merge_three : (a b c : Content L) → merge (merge (Some a) (Some b)) (Some c) ≡ merge (Some a) (merge (Some b) (Some c))
  merge_three a b c = elim (cases_Bool (joins a b)) [
    | inl fit ↦ elim (cases_Bool (joins b c)) [
      | inl next ↦ rw (fit, next, joins_on a b c fit, next, fit) (ap Some (join_assoc a b c (joins-parts a b fit).0))
      | inr apart ↦ rw (fit, apart, joins_on a b c fit, apart)
    ]
    | inr apart ↦ elim (cases_Bool (joins b c)) [
      | inl next ↦ rw (apart, next, apart)
      | inr more ↦ rw (apart, more)
    ]
  ]

  merge_assoc : (x y z : Option (Content L)) → merge (merge x y) z ≡ merge x (merge y z)
  merge_assoc None y z = refl
  merge_assoc (Some a) None z = refl
  merge_assoc (Some a) (Some b) None = merge_none (merge (Some a) (Some b))
  merge_assoc (Some a) (Some b) (Some c) = merge_three a b c

  -- one after another, from the earliest on
  abbrev chain : Option (Content L) → List (Option (Content L)) → Option (Content L)
  chain x [] = x
  chain x (y ∷ ys) = chain (merge x y) ys

  chain_on : (x y : Option (Content L)) (ys : List (Option (Content L))) → merge x (chain y ys) ≡ chain (merge x y) ys
  chain_on x y [] = refl
  chain_on x y (z ∷ zs) = chain_on x (merge y z) zs ∙ ap (λ w. chain w zs) (sym (merge_assoc x y z))

  chain_append : (x : Option (Content L)) (xs ys : List (Option (Content L))) → chain x (xs ++ ys) ≡ chain (chain x xs) ys
  chain_append x [] ys = refl
  chain_append x (y ∷ xs) ys = chain_append (merge x y) xs ys

-- the earliest image of a tree, and those behind it
abbrev first : Tree → List ℕ
first (image bs) = bs
first (pair s t) = first s

abbrev rest : Tree → List (List ℕ)
rest (image bs) = []
rest (pair s t) = rest s ++ (first t ∷ rest t)

leaves_are : (t : Tree) → leaves t ≡ first t ∷ rest t
leaves_are (image bs) = refl
leaves_are (pair s t) = rw (leaves_are s, leaves_are t)

-- a pair puts two images together at least
two_leaves : (s t : Tree) → length (leaves (pair s t)) ≡ 1 → ⊥
two_leaves s t e =
    let sizes = length-append (leaves s) (leaves t) in
    let some = ap length (leaves_are s) in
    let more = ap length (leaves_are t) in
    omega arith

all_split : {X : Type 0} (P : X → Type 0) (xs ys : List X) → AllByRecursion P (xs ++ ys) → AllByRecursion P xs × AllByRecursion P ys
all_split P [] ys h = (tt, h)
all_split P (x ∷ xs) ys h = let behind = all_split P xs ys h.1 in ((h.0, behind.0), behind.1)

module _ {L : Type 0} (f : Coding L) (lawful : Lawful f) where
  abbrev said : Result (Content L) Unlawful → Option (Content L)
  said (Ok c) = Some c
  said (Err u) = None

  content : List ℕ → Option (Content L)
  content bs = said (reading f bs)

  -- what the image of a tree says
  abbrev says : Tree → Option (Content L)
  says (image bs) = content bs
  says (pair s t) = merge (says s) (says t)

  says_chain : (t : Tree) → says t ≡ chain (content (first t)) (map content (rest t))
  says_chain (image bs) = refl
  says_chain (pair s t) =
      rw (says_chain s, says_chain t, map-append content (rest s) (first t ∷ rest t), chain_append (content (first s)) (map content (rest s)) (content (first t) ∷ map content (rest t)))
      (chain_on (chain (content (first s)) (map content (rest s))) (content (first t)) (map content (rest t)))

  said_some : (r : Result (Content L) Unlawful) (c : Content L) → said r ≡ Some c → r ≡ Ok c
  said_some (Ok d) c e = let same : d ≡ c = cc in ap Ok same
  said_some (Err u) c e = absurd (cc)

  merge_lawful : (x y : Option (Content L)) (c : Content L) → ((a : Content L) → x ≡ Some a → LawfulImage f a) → ((b : Content L) → y ≡ Some b → LawfulImage f b) → merge x y ≡ Some c → LawfulImage f c
  merge_lawful None y c hx hy e = absurd (cc)
  merge_lawful (Some a) None c hx hy e = absurd (cc)
  merge_lawful (Some a) (Some b) c hx hy e = elim (cases_Bool (joins a b)) [
    | inl fit ↦
        let some : Some (join a b) ≡ Some c = rw fit at e in
        let same : join a b ≡ c = cc in
        subst (λ d. LawfulImage f d) same (join-lawful f a b (hx a refl) (hy b refl) fit)
    | inr apart ↦ let none : None ≡ Some c = rw apart at e in absurd (cc)
  ]

  says_lawful : (t : Tree) → AllByRecursion Bytes (leaves t) → (c : Content L) → says t ≡ Some c → LawfulImage f c
  unfolding content
  says_lawful (image bs) typed c e = (only f lawful bs typed.0 c (said_some (reading f bs) c e)).0
  says_lawful (pair s t) typed c e =
      let both = all_split Bytes (leaves s) (leaves t) typed in
      merge_lawful (says s) (says t) c (says_lawful s both.0) (says_lawful t both.1) e

  -- what an image says, if there is one
  abbrev heard : Option (List ℕ) → Option (Content L)
  heard None = None
  heard (Some bs) = content bs

  join_says : (r s : Result (Content L) Unlawful) → accepted (join_read f r s) ≡ option_map (writing f) (merge (said r) (said s))
  join_says (Err u) s = refl
  join_says (Ok a) (Err u) = refl
  join_says (Ok a) (Ok b) = elim (cases_Bool (joins a b)) [ inl fit ↦ rw fit | inr apart ↦ rw apart ]

  both_say : (x y : Option (List ℕ)) → join_both f x y ≡ option_map (writing f) (merge (heard x) (heard y))
  unfolding content
  both_say None y = refl
  both_say (Some x) None = ap (option_map (writing f)) (sym (merge_none (content x)))
  both_say (Some x) (Some y) = join_says (reading f x) (reading f y)

  heard_back : (o : Option (Content L)) → ((c : Content L) → o ≡ Some c → LawfulImage f c) → heard (option_map (writing f) o) ≡ o
  unfolding content
  heard_back None h = refl
  heard_back (Some c) h = ap said (back f lawful c (h c refl) (writing f c) (bytes-writing f lawful c) refl)

  pair-by : (s t : Tree) → heard (value f s) ≡ says s → heard (value f t) ≡ says t → value f (pair s t) ≡ option_map (writing f) (says (pair s t))
  pair-by s t hs ht = both_say (value f s) (value f t) ∙ rw (hs, ht)

  value_says : (t : Tree) → AllByRecursion Bytes (leaves t) → heard (value f t) ≡ says t
  value_says (image bs) typed = refl
  value_says (pair s t) typed =
      let both = all_split Bytes (leaves s) (leaves t) typed in
      ap heard (pair-by s t (value_says s both.0) (value_says t both.1)) ∙ heard_back (says (pair s t)) (says_lawful (pair s t) typed)

  pair-value : (s t : Tree) → AllByRecursion Bytes (leaves (pair s t)) → value f (pair s t) ≡ option_map (writing f) (says (pair s t))
  pair-value s t typed =
      let both = all_split Bytes (leaves s) (leaves t) typed in
      pair-by s t (value_says s both.0) (value_says t both.1)

  -- what trees over the same images say is the same
  same_says : (s t : Tree) → leaves s ≡ leaves t → says s ≡ says t
  same_says s t e =
      let lists : first s ∷ rest s ≡ first t ∷ rest t = sym (leaves_are s) ∙ e ∙ leaves_are t in
      let one : first s ≡ first t = cc in
      let more : rest s ≡ rest t = cc in
      says_chain s ∙ rw (one, more) (sym (says_chain t))

  pub grouped : Grouping f
  grouped (image x) (image y) typed e = let same : x ≡ y = cc in ap Some same
  grouped (image x) (pair s t) typed e = absurd (two_leaves s t (sym (ap length e)))
  grouped (pair s t) (image x) typed e = absurd (two_leaves s t (ap length e))
  grouped (pair s t) (pair u v) typed e =
      pair-value s t typed ∙ ap (option_map (writing f)) (same_says (pair s t) (pair u v) e) ∙ sym (pair-value u v (subst (λ xs. AllByRecursion Bytes xs) e typed))
