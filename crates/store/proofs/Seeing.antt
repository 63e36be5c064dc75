-- What a seat sees of the lines, and which lines are held.
use Rattle.std.proofs.Common.{◌≡◌, ℕ, ◌<◌, Bool, true, false, cond, not, eqb, List, map, length, get_or, set, is_some, Some, None, Ok, Option, sym, refl, ap, ◌∙◌, inl, inr, arith}
use Rattle.std.specs.Option.{option_map}
use Rattle.std.specs.List.{slice_get}
use Rattle.std.proofs.lemmas.List.{length-map}
use Rattle.std.proofs.lemmas.Bool.{eq-eqb, eqb-true, cases_Bool, not-false}
use Rattle.lines.specs.Changing.{Outcome}
use Rattle.lines.specs.Numbered.{after}
use Rattle.std.proofs.lemmas.Option.{slice_get-map}
use Rattle.keepers.specs.declared.clocks.Clock.{Clock}
use Rattle.keepers.specs.declared.stages.Stage.{Stage}
use Rattle.keepers.specs.Meanings.{Hand, names, any, changes_of_hand}
use Rattle.keepers.specs.Methods.{Method, began_in, committed_line}
use Rattle.keepers.specs.Stages.{allowed}
use Rattle.store.specs.declared.cells.Cell.{Cell}
use Rattle.store.specs.CellRules.{by, elsewhere, committed_of}
use Rattle.store.specs.States.{State}
use Rattle.store.specs.Validity.{ran, only, part, Sits, Valid}
use Rattle.store.proofs.Numbering.{get_d_set}
use Rattle.store.proofs.Parts.{part_none, part_some, any_none, any_some}
use Rattle.store.proofs.Running.{after_lines}

-- an element of a mapped list comes from one of the list
pub nth_of_map : {X Y : Type 0} (g : X → Y) (xs : List X) (j : ℕ) (y : Y) → slice_get (map g xs) j ≡ Some y → (x : X) × (slice_get xs j ≡ Some x) × (g x ≡ y)
nth_of_map g xs j y e = from (slice_get xs j) refl (sym (slice_get-map g xs j) ∙ e)
  where
    from : (o : Option _) → slice_get xs j ≡ o → option_map g o ≡ Some y → (x : _) × (slice_get xs j ≡ Some x) × (g x ≡ y)
    from None is p = absurd (cc)
    from (Some x) is p = (x, is, cc)

pub eqb_sym : (a b : ℕ) → eqb a b ≡ eqb b a
eqb_sym a b = grind arith

cond_false : (b : Bool) → cond b false false ≡ false
cond_false b = grind arith

cond_self : (b : Bool) → cond b false b ≡ false
cond_self b = grind arith

-- a part's stage of beginning is its seat's
pub part-began : (quiet : Bool) (g : Stage) (j : ℕ) (h : Option Hand) (w : Hand) → part j h ≡ Some w → began_in quiet g (option_map (λ v. v.began) h) ≡ true → allowed quiet g w.began ≡ true
part-began quiet g j None w e a = absurd (cc)
part-began quiet g j (Some h) w e a = ap (allowed quiet g) ((part_some (Some h) j w e).2 h refl) ∙ a

-- a line is held by another seat than s if its holder is another
module _ (hs : List (Option Hand)) (s : ℕ) (within : s < length hs) (i : ℕ) where
  abbrev touches : Option Hand → Bool
  touches h = names (changes_of_hand h) i

  others : (r : ℕ) (b : Bool) → eqb s r ≡ b → touches (get_or (set hs s None) r None) ≡ cond b false (touches (get_or hs r None))
  others r true e = ap touches (get_d_set hs s r None None within ∙ ap (λ b. cond b None (get_or hs r None)) e)
  others r false e = ap touches (get_d_set hs s r None None within ∙ ap (λ b. cond b None (get_or hs r None)) e)

  held_by : (holder : Option ℕ) → ((r : ℕ) → touches (get_or hs r None) ≡ by holder r) → any touches (set hs s None) ≡ elsewhere holder s
  held_by None named = any_none touches (set hs s None) (λ r. others r (eqb s r) refl ∙ ap (cond (eqb s r) false) (named r) ∙ cond_false (eqb s r))
  held_by (Some t) named = elim (cases_Bool (eqb t s)) [
    | inl same ↦
        any_none touches (set hs s None)
        (λ r. others r (eqb s r) refl ∙ ap (cond (eqb s r) false) (named r ∙ ap (λ q. eqb q r) (eqb-true t s same)) ∙ cond_self (eqb s r)) ∙ ap not (sym same)
    | inr other ↦
        any_some touches (set hs s None) t refl (others t false (eqb_sym s t ∙ other) ∙ named t ∙ eq-eqb t t refl) ∙ ap not (sym other)
  ]

module _ {L O : Type 0} (m : Method L O) (sound : Clock → Bool → Option Stage → L → O → Type 0) (f : L → ℕ → ℕ → Outcome L) where
  -- the line as seat s sees it
  abbrev pub seen_of : ℕ → Cell L O → L
  seen_of s x = cond (by x.holder s) (m.live x.own) (committed_of m x)

  -- seats that cannot be told apart by line j
  pub sits_frame : (hs hs' : List (Option Hand)) (k : Clock) (due : Bool) (j : ℕ) (own : O) (holder : Option ℕ) (before : L)
      → ((s : ℕ) → part j (get_or hs' s None) ≡ part j (get_or hs s None)) → Sits m sound f hs k due j own holder before → Sits m sound f hs' k due j own holder before
  sits_frame hs hs' k due j own None before same sits = record { parts = λ s. same s ∙ sits.parts s; is_sound = sits.is_sound }
  sits_frame hs hs' k due j own (Some t) before same sits = record { work = sits.work; parts = λ s. same s ∙ sits.parts s; made = sits.made; is_sound = sits.is_sound }

  -- no other seat has changed a line that is free to seat s
  pub alone : (hs : List (Option Hand)) (k : Clock) (due : Bool) (i : ℕ) (own : O) (before : L) (holder : Option ℕ) (s r : ℕ) → elsewhere holder s ≡ false → eqb s r ≡ false
      → Sits m sound f hs k due i own holder before → part i (get_or hs r None) ≡ None
  alone hs k due i own before None s r free other sits = sits.parts r
  alone hs k due i own before (Some t) s r free other sits =
      sits.parts r ∙ ap (λ b. cond b (Some sits.work) None) (ap (λ q. eqb q r) (eqb-true t s (not-false (eqb t s) free)) ∙ other)

  -- a seat that does not hold a line has no part in it
  pub not_mine : (hs : List (Option Hand)) (k : Clock) (due : Bool) (i : ℕ) (own : O) (before : L) (holder : Option ℕ) (s : ℕ) → by holder s ≡ false
      → Sits m sound f hs k due i own holder before → None ≡ part i (get_or hs s None)
  not_mine hs k due i own before None s e sits = sym (sits.parts s)
  not_mine hs k due i own before (Some t) s e sits = sym (sits.parts s ∙ ap (λ b. cond b (Some sits.work) None) e)

  module _ (hs : List (Option Hand)) (k : Clock) (due : Bool) (j : ℕ) (own : O) (before : L) where
    -- of the seats, the holder names the line and no other does
    pub sits-names : (holder : Option ℕ) → Sits m sound f hs k due j own holder before → (s : ℕ) → names (changes_of_hand (get_or hs s None)) j ≡ by holder s
    sits-names None sits s = (part_none (get_or hs s None) j (sits.parts s)).0
    sits-names (Some t) sits s = elim (cases_Bool (eqb t s)) [
      | inl same ↦ (part_some (get_or hs s None) j sits.work (sits.parts s ∙ ap (λ b. cond b (Some sits.work) None) same)).0 ∙ sym same
      | inr other ↦ (part_none (get_or hs s None) j (sits.parts s ∙ ap (λ b. cond b (Some sits.work) None) other)).0 ∙ sym other
    ]

    pub sees_cell : (holder : Option ℕ) → Sits m sound f hs k due j own holder before → (s : ℕ)
        → ran f (Ok (committed_line m (is_some holder) before own)) (only j (changes_of_hand (get_or hs s None))) ≡ Ok (cond (by holder s) (m.live own) (committed_line m (is_some holder) before own))
    sees_cell None sits s = ap (ran f (Ok (m.live own))) (part_none (get_or hs s None) j (sits.parts s)).1
    sees_cell (Some t) sits s = elim (cases_Bool (eqb t s)) [
      | inl same ↦
          let own_changes = (part_some (get_or hs s None) j sits.work (sits.parts s ∙ ap (λ b. cond b (Some sits.work) None) same)).1 in
          ap (ran f (Ok before)) own_changes ∙ sits.made ∙ ap (λ b. Ok (cond b (m.live own) before)) (sym same)
      | inr other ↦
          let no_changes = (part_none (get_or hs s None) j (sits.parts s ∙ ap (λ b. cond b (Some sits.work) None) other)).1 in
          ap (ran f (Ok before)) no_changes ∙ ap (λ b. Ok (cond b (m.live own) before)) (sym other)
    ]

  module _ (t : State L O) (v : Valid m sound f t) (s : ℕ) where
    pub sees : after f (map (committed_of m) t.cells) (changes_of_hand (get_or t.seats s None)) ≡ map (seen_of s) t.cells
    sees =
        after_lines f (changes_of_hand (get_or t.seats s None)) (map (committed_of m) t.cells) (map (seen_of s) t.cells)
        (length-map t.cells (committed_of m) ∙ sym (length-map t.cells (seen_of s)))
        (λ j p. let h = v.inside s j p in omega (arith, h, length-map t.cells (committed_of m)))
        (λ j a b p q.
        let x = nth_of_map (committed_of m) t.cells j a p in
        let y = nth_of_map (seen_of s) t.cells j b q in
        let one : x.0 ≡ y.0 = let e : Some x.0 ≡ Some y.0 = sym x.1 ∙ y.1 in cc in
        let cell = sees_cell t.seats t.clock _ j x.0.own x.0.before x.0.holder (v.sits j x.0 x.1) s in
        ap (λ z. ran f (Ok z) (only j (changes_of_hand (get_or t.seats s None)))) (sym x.2) ∙ cell ∙ ap (λ z. Ok (seen_of s z)) one ∙ ap (λ z. Ok z) y.2)

    -- whether another seat holds the line of a cell
    pub held_is : s < length t.seats → (i : ℕ) (x : Cell L O) → slice_get t.cells i ≡ Some x → any (λ h. names (changes_of_hand h) i) (set t.seats s None) ≡ elsewhere x.holder s
    held_is within i x there = held_by t.seats s within i x.holder (sits-names t.seats t.clock _ i x.own x.before x.holder (v.sits i x there))
