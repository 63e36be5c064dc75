-- Lines in their turn, and the records of an image piece by piece.
use Rattle.std.proofs.Common.{◌≡◌, ℕ, suc, ◌+◌, ◌^◌, ◌<◌, ◌≤◌, true, ltb, List, [], ◌∷◌, ◌++◌, map, length, refl, arith}
use Rattle.std.proofs.lemmas.List.{append-nil}
use Rattle.std.proofs.lemmas.Bool.{and_from, eqb-true, eq-eqb, le-leb, lt-ltb}
use Rattle.std.proofs.lemmas.Grind.{flat_map-append}
use Rattle.std.proofs.lemmas.List.Folds.{flat_map-map}
use Rattle.lines.specs.Coding.{Coding}
use Rattle.records.specs.declared.heads.Head.{Head}
use Rattle.records.specs.declared.heads.Mode.{Mode}
use Rattle.records.specs.declared.heads.Mode.TheVariants.{Full, Partial}
use Rattle.records.specs.declared.image_lines.ImageLine.{ImageLine}
use Rattle.records.specs.Framing.{bytes_of}
use Rattle.records.specs.Heads.{head_record}
use Rattle.records.specs.ImageLines.{line_record, line_fits}
use Rattle.records.specs.Numbers.{end_record}
use Rattle.images.specs.Images.{Content, head_of, writing, Rising, lines_bytes}
use Rattle.images.specs.Reading.{follows, in_turn, all_there}
use Rattle.images.proofs.Walk.{turn_bounds}

-- each line comes in its turn
abbrev pub Turns : {L : Type 0} → Head → ℕ → List (ImageLine L) → Type 0
Turns h low [] = Unit {0}
Turns h low (v ∷ vs) = (in_turn h low v.number ≡ true) × Turns h (suc v.number) vs

pub turns_rise : {L : Type 0} (h : Head) (low : ℕ) (vs : List (ImageLine L)) → Turns h low vs → Rising low h.n vs
turns_rise h low [] t = tt
turns_rise h low (v ∷ vs) t =
    let b = turn_bounds h low v.number t.0 in
    (b.0, b.1, turns_rise h (suc v.number) vs t.1)

-- rising numbers below n are no more than n
pub rising_few : {L : Type 0} (low n : ℕ) (vs : List (ImageLine L)) → low ≤ n → Rising low n vs → low + length vs ≤ n
rising_few low n [] h r = omega arith
rising_few low n (v ∷ vs) h r = omega (arith, r.0, rising_few (suc v.number) n vs r.1 r.2)

-- a full image is to come to n lines
abbrev pub Due : Mode → ℕ → ℕ → Type 0
Due Full m n = m ≡ n
Due Partial m n = Unit {0}

-- the first of rising lines is in its turn, and so are those behind it
next_turn : {L : Type 0} (m : Mode) (low n : ℕ) (v : ImageLine L) (vs : List (ImageLine L)) → Rising low n (v ∷ vs) → Due m (low + length (v ∷ vs)) n
    → (follows m low v.number ≡ true) × Due m (suc v.number + length vs) n
next_turn Full low n v vs r d =
    let few = rising_few (suc v.number) n vs r.1 r.2 in
    let same : v.number ≡ low = omega (arith, r.0) in
    (eq-eqb v.number low same, omega arith)
next_turn Partial low n v vs r d = (le-leb low v.number r.0, tt)

pub rise_turns : {L : Type 0} (h : Head) (low : ℕ) (vs : List (ImageLine L)) → Rising low h.n vs → Due h.mode (low + length vs) h.n → Turns h low vs
rise_turns h low [] r d = tt
rise_turns h low (v ∷ vs) r d =
    let next = next_turn h.mode low h.n v vs r d in (
      and_from (ltb v.number h.n) (follows h.mode low v.number) (lt-ltb v.number h.n r.1) next.0,
      rise_turns h (suc v.number) vs r.2 next.1,
    )

pub due-complete : (m : Mode) (n count : ℕ) → Due m count n → all_there m n count ≡ true
due-complete Full n count d = eq-eqb count n d
due-complete Partial n count d = refl

pub complete-due : (m : Mode) (n count : ℕ) → all_there m n count ≡ true → Due m count n
complete-due Full n count d = eqb-true count n d
complete-due Partial n count d = tt

module _ {L : Type 0} (f : Coding L) where
  -- an image is its head, its lines and its end
  pub writing-parts : (c : Content L) → writing f c ≡ bytes_of head_record (head_of f c) ++ (lines_bytes f c.lines ++ bytes_of end_record (length c.lines))
  unfolding writing
  writing-parts c =
      let end = bytes_of end_record (length c.lines) in
      rw (flat_map-append (λ r. r) (map (bytes_of (line_record f)) c.lines) (end ∷ []), flat_map-map (λ r. r) (bytes_of (line_record f)) c.lines, append-nil end)

  -- a line of an image fits its record
  pub line_fit : (v : ImageLine L) (n : ℕ) → v.number < n → n ≤ 1024 → f.keeps v.line ≡ true → line_fits f v ≡ true
  line_fit v n low few kept = and_from (ltb v.number (2 ^ 16)) (f.keeps v.line) (lt-ltb v.number (2 ^ 16) (omega arith)) kept
