-- Lines listed by number: what stands at a number, how many there are, and that a walk over two images lists them.
use Rattle.std.proofs.Common.{◌≡◌, ℕ, zero, suc, ◌+◌, ◌<◌, ◌≤◌, List, [], ◌∷◌, length, Some, None, Option, sym, refl, ap, ◌∙◌, inl, inr, arith}
use Rattle.std.proofs.lemmas.Bool.{cases_lt, eq-eqb, ne_eqb}
use Rattle.std.specs.List.{slice_get}
use Rattle.records.specs.declared.image_lines.ImageLine.{ImageLine}
use Rattle.records.specs.ImageLines.{numbered}
use Rattle.images.specs.Images.{Rising}
use Rattle.joins.specs.Joining.{line_of, newer, and_then, listed}
use Rattle.joins.specs.Merging.{overlay}
use Rattle.joins.proofs.Merge.{Above, overlay_earlier, overlay_later, overlay_both}

module _ {L : Type 0} where
  -- nothing stands below the first number
  pub line_below : (low n : ℕ) (vs : List (ImageLine L)) (i : ℕ) → Rising low n vs → i < low → line_of vs i ≡ None
  line_below low n [] i r h = refl
  line_below low n (v ∷ vs) i r h = rw (ne_eqb v.number i (omega (arith, r.0)), line_below (suc v.number) n vs i r.2 (omega (arith, r.0)))

  first_above : (low n : ℕ) (vs : List (ImageLine L)) → Rising (suc low) n vs → Above low (slice_get vs 0)
  first_above low n [] r = tt
  first_above low n (v ∷ vs) r = omega (arith, r.0)

  -- a line of the number low, if any, before lines of higher numbers
  module _ (low n : ℕ) (vs : List (ImageLine L)) (r : Rising (suc low) n vs) where
    pub line_here : (x : Option L) → line_of (and_then low x vs) low ≡ x
    line_here None = line_below (suc low) n vs low r (omega arith)
    line_here (Some x) = rw (eq-eqb low low refl)

    pub line_past : (x : Option L) (i : ℕ) → low < i → line_of (and_then low x vs) i ≡ line_of vs i
    line_past None i h = refl
    line_past (Some x) i h = rw (ne_eqb low i (omega arith))

    rising_off : (vs : List (ImageLine L)) → Rising (suc low) n vs → Rising low n vs
    rising_off [] r = tt
    rising_off (v ∷ vs) r = (omega (arith, r.0), r.1, r.2)

    pub rising_then : (x : Option L) → low < n → Rising low n (and_then low x vs)
    rising_then None h = rising_off vs r
    rising_then (Some x) h = (omega arith, h, r)

    -- both such lines side by side
    overlay_then : (x y : Option L) (ws : List (ImageLine L)) → Rising (suc low) n ws → overlay (and_then low x vs) (and_then low y ws) ≡ and_then low (newer y x) (overlay vs ws)
    overlay_then None None ws s = refl
    overlay_then (Some x) None ws s = overlay_earlier (numbered low x) vs ws (first_above low n ws s)
    overlay_then None (Some y) ws s = overlay_later (numbered low y) vs ws (first_above low n vs r)
    overlay_then (Some x) (Some y) ws s = overlay_both (numbered low x) (numbered low y) vs ws refl

  -- rising lines are a line of the first number, if there is one, and those behind
  record Off (low n : ℕ) (vs : List (ImageLine L)) : Type 0 where
    pub here : Option L
    pub behind : List (ImageLine L)
    pub is : vs ≡ and_then low here behind
    pub rises : Rising (suc low) n behind
    pub first : line_of vs low ≡ here
    pub past : (i : ℕ) → low < i → line_of vs i ≡ line_of behind i

  taken_off : (low n : ℕ) (vs : List (ImageLine L)) (here : Option L) (behind : List (ImageLine L)) → vs ≡ and_then low here behind → Rising (suc low) n behind → Off low n vs
  taken_off low n vs here behind is rises = record {
    here = here;
    behind = behind;
    is = is;
    rises = rises;
    first = ap (λ xs. line_of xs low) is ∙ line_here low n behind rises here;
    past = λ i h. ap (λ xs. line_of xs i) is ∙ line_past low n behind rises here i h;
  }

  off : (low n : ℕ) (vs : List (ImageLine L)) → Rising low n vs → Off low n vs
  off low n [] r = taken_off low n [] None [] refl tt
  off low n (v ∷ vs) r = elim (cases_lt low v.number) [
    | inl higher ↦ taken_off low n (v ∷ vs) None (v ∷ vs) refl (higher, r.1, r.2)
    | inr same ↦
        let number : v.number ≡ low = omega (arith, r.0) in
        taken_off low n (v ∷ vs) (Some v.line) vs (ap (λ i. numbered i v.line ∷ vs) number) (rw number at r.2)
  ]

  pub listed_same : (g h : ℕ → Option L) (low m : ℕ) → ((i : ℕ) → low ≤ i → i < low + m → g i ≡ h i) → listed g low m ≡ listed h low m
  listed_same g h low zero e = refl
  listed_same g h low (suc m) e =
      rw (e low (omega arith) (omega arith), listed_same g h (suc low) m (λ i a b. e i (omega arith) (omega arith)))

  pub rising-listed : (g : ℕ → Option L) (low m n : ℕ) → low + m ≤ n → Rising low n (listed g low m)
  rising-listed g low zero n h = tt
  rising-listed g low (suc m) n h = rising_then low n (listed g (suc low) m) (rising-listed g (suc low) m n (omega arith)) (g low) (omega arith)

  -- at each number stands what was listed there
  pub line_of-listed : (g : ℕ → Option L) (low m i : ℕ) → low ≤ i → i < low + m → line_of (listed g low m) i ≡ g i
  line_of-listed g low zero i h k = absurd (omega arith)
  line_of-listed g low (suc m) i h k =
      let rest = listed g (suc low) m in
      let r = rising-listed g (suc low) m (suc low + m) (omega arith) in
      elim (cases_lt low i) [
        | inl past ↦ line_past low (suc low + m) rest r (g low) i past ∙ line_of-listed g (suc low) m i (omega arith) (omega arith)
        | inr here ↦ let same : i ≡ low = omega arith in rw same (line_here low (suc low + m) rest r (g low))
      ]

  -- two images walked side by side give every line of either, the later's winning
  pub overlay_listed : (m low n : ℕ) (vs ws : List (ImageLine L)) → low + m ≡ n → Rising low n vs → Rising low n ws → overlay vs ws ≡ listed (λ i. newer (line_of ws i) (line_of vs i)) low m
  overlay_listed zero low n [] [] h r s = refl
  overlay_listed zero low n (v ∷ vs) ws h r s = absurd (omega (arith, r.0, r.1))
  overlay_listed zero low n [] (w ∷ ws) h r s = absurd (omega (arith, s.0, s.1))
  overlay_listed (suc m) low n vs ws h r s =
      let p = off low n vs r in
      let q = off low n ws s in
      let later = overlay_listed m (suc low) n p.behind q.behind (omega arith) p.rises q.rises in
      let same = listed_same (λ i. newer (line_of ws i) (line_of vs i)) (λ i. newer (line_of q.behind i) (line_of p.behind i)) (suc low) m (λ i a b. rw (p.past i (omega arith), q.past i (omega arith))) in
      let first = ap (λ xs. overlay xs ws) p.is ∙ ap (λ ys. overlay (and_then low p.here p.behind) ys) q.is ∙ overlay_then low n p.behind p.rises p.here q.here q.behind q.rises in
      first ∙ rw (p.first, q.first, later, same)

  -- rising lines are listed by what stands at each number
  pub listed_self : (m low n : ℕ) (vs : List (ImageLine L)) → low + m ≡ n → Rising low n vs → listed (line_of vs) low m ≡ vs
  listed_self zero low n [] h r = refl
  listed_self zero low n (v ∷ vs) h r = absurd (omega (arith, r.0, r.1))
  listed_self (suc m) low n vs h r =
      let p = off low n vs r in
      let same = listed_same (line_of vs) (line_of p.behind) (suc low) m (λ i a b. p.past i (omega arith)) in
      rw (p.first, same, listed_self m (suc low) n p.behind (omega arith) p.rises) (sym p.is)

  -- lines of a later image make them no fewer
  and_then_more : (i : ℕ) (x y : Option L) (vs ws : List (ImageLine L)) → length vs ≤ length ws → length (and_then i x vs) ≤ length (and_then i (newer y x) ws)
  and_then_more i None None vs ws h = h
  and_then_more i (Some x) None vs ws h = omega arith
  and_then_more i None (Some y) vs ws h = omega arith
  and_then_more i (Some x) (Some y) vs ws h = omega arith

  pub listed_more : (g y : ℕ → Option L) (low m : ℕ) → length (listed g low m) ≤ length (listed (λ i. newer (y i) (g i)) low m)
  listed_more g y low zero = omega arith
  listed_more g y low (suc m) = and_then_more low (g low) (y low) (listed g (suc low) m) (listed (λ i. newer (y i) (g i)) (suc low) m) (listed_more g y (suc low) m)
