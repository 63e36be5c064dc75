-- Giving out on the state is giving out on the meaning.
use Rattle.std.proofs.Common.{◌≡◌, ℕ, zero, suc, ◌+◌, ◌≤◌, Bool, true, false, cond, eqb, leb, List, [], ◌∷◌, map, drop, is_some, Some, None, Ok, Option, sym, refl, ap, ◌∙◌, subst, inl, inr, add-one, arith}
use Rattle.std.specs.Option.{option_map}
use Rattle.std.specs.List.{slice_get}
use Rattle.std.proofs.lemmas.List.{length-map, drop_all}
use Rattle.std.proofs.lemmas.Bool.{eqb-true, eqb-false, cases_lt, le-leb, lt-leb}
use Rattle.lines.specs.Changing.{Outcome}
use Rattle.std.proofs.lemmas.Option.{slice_get-map, slice_get_within}
use Rattle.keepers.specs.declared.clocks.Clock.{Clock}
use Rattle.keepers.specs.declared.given.Given.{Given}
use Rattle.keepers.specs.declared.stages.Stage.{Stage}
use Rattle.keepers.specs.declared.stages.Stage.TheVariants.{Rest, Called, Pointed, Taking, Closing}
use Rattle.keepers.specs.Calls.{gives, gave}
use Rattle.keepers.specs.Meanings.{Hand}
use Rattle.keepers.specs.Methods.{Method, Lawful, committed_line}
use Rattle.keepers.specs.Stages.{same}
use Rattle.store.specs.declared.cells.Cell.{Cell}
use Rattle.store.specs.CellRules.{given_cell, committed_of, named_of, due_of, alter}
use Rattle.store.specs.States.{State, meaning}
use Rattle.store.specs.Steps.{given_out, handed}
use Rattle.store.specs.Validity.{Sits, Valid}
use Rattle.store.proofs.Altering.{nth_none}
use Rattle.store.proofs.Judging.{Shows, shown}
use Rattle.store.proofs.Numbering.{nth_alter, length-alter, map-alter, drop-map-alter}

drop_nth : {X : Type 0} (xs : List X) (d : ℕ) (x : X) → slice_get xs d ≡ Some x → drop d xs ≡ x ∷ drop (suc d) xs
drop_nth [] d x e = absurd (cc)
drop_nth (y ∷ xs) zero x e = let one : y ≡ x = cc in ap (λ z. z ∷ xs) one
drop_nth (y ∷ xs) (suc d) x e = drop_nth xs d x e

-- of the lines that are not the next, the same are due after it
due_later : (d j : ℕ) → eqb d j ≡ false → leb d j ≡ leb (d + 1) j
due_later d j other = elim (cases_lt j d) [
  | inl before ↦ lt-leb d j before ∙ sym (lt-leb (d + 1) j (omega arith))
  | inr behind ↦ let apart = eqb-false d j other in le-leb d j behind ∙ sym (le-leb (d + 1) j (not_equal d j behind apart))
]
  where
    not_equal : (d j : ℕ) → d ≤ j → (d ≡ j → ⊥) → d + 1 ≤ j
    not_equal d j h n = elim (cases_lt d j) [ inl lt ↦ omega arith | inr ge ↦ absurd (n (omega arith)) ]

module _ {L O : Type 0} (m : Method L O) (sound : Clock → Bool → Option Stage → L → O → Type 0) (law : Lawful m sound) (f : L → ℕ → ℕ → Outcome L) where
  given_kept : (hs : List (Option Hand)) (k : Clock) (j : ℕ) (own : O) (before : L) (holder : Option ℕ) → k.stage ≡ Taking → Sits m sound f hs k true j own holder before
      → (m.due k (is_some holder) before own ≡ m.gives k own) × (committed_line m (is_some holder) before (m.given k own) ≡ committed_line m (is_some holder) before own)
      × (m.named k (is_some holder) (m.given k own) ≡ m.named k (is_some holder) own) × Sits m sound f hs k false j (m.given k own) holder before
  given_kept hs k j own before None taking sits =
      let kept = law.given_is k None before own taking sits.is_sound in
      (sym (law.gives_is k None before own taking sits.is_sound), kept.live_is, kept.named_is, record { parts = sits.parts; is_sound = kept.sound_is })
  given_kept hs k j own before (Some t) taking sits =
      let kept = law.given_is k (Some sits.work.began) before own taking sits.is_sound in (
        sym (law.gives_is k (Some sits.work.began) before own taking sits.is_sound),
        refl,
        kept.named_is,
        record { work = sits.work; parts = sits.parts; made = sits.made ∙ ap (λ x. Ok x) (sym kept.live_is); is_sound = kept.sound_is },
      )

  module _ (cells : List (Cell L O)) (seats : List (Option Hand)) (odd sense : Bool) (given : ℕ) where
    abbrev clock : Clock
    clock = record { stage = Taking; odd = odd; sense = sense }

    abbrev here : State L O
    here = record { cells = cells; seats = seats; clock = clock; given = given }

    abbrev next : State L O
    next = record { cells = alter (given_cell m clock) cells given; seats = seats; clock = clock; given = given + 1 }

    module _ (v : Valid m sound f here) (x : Cell L O) (there : slice_get cells given ≡ Some x) where
      kept : (m.due clock (is_some x.holder) x.before x.own ≡ m.gives clock x.own) × (committed_of m (given_cell m clock x) ≡ committed_of m x)
          × (named_of m clock (given_cell m clock x) ≡ named_of m clock x) × Sits m sound f seats clock false given (m.given clock x.own) x.holder x.before
      kept =
          given_kept seats clock given x.own x.before x.holder refl
          (subst (λ b. Sits m sound f seats clock b given x.own x.holder x.before) (le-leb given given (omega arith)) (v.sits given x there))

      this : (z : Cell L O) → slice_get cells given ≡ Some z → x ≡ z
      this z e = let p : Some x ≡ Some z = sym there ∙ e in cc

      meaning_next : gives (meaning m here) ≡ (Some (m.gives clock x.own), meaning m next)
      meaning_next =
          let at = slice_get-map (due_of m clock) cells given ∙ ap (option_map (due_of m clock)) there in
          let left = drop_nth (map (due_of m clock) cells) given (due_of m clock x) at ∙ ap (λ d. due_of m clock x ∷ drop d (map (due_of m clock) cells)) (sym (add-one given)) in
          let lines = map-alter (committed_of m) (given_cell m clock) cells given (λ z e. subst (λ w. committed_of m (given_cell m clock w) ≡ committed_of m w) (this z e) kept.1) in
          let named = map-alter (named_of m clock) (given_cell m clock) cells given (λ z e. subst (λ w. named_of m clock (given_cell m clock w) ≡ named_of m clock w) (this z e) kept.2) in
          let due = drop-map-alter (due_of m clock) (given_cell m clock) (given + 1) cells given (λ z e d. absurd (omega arith)) in
          rw (left, kept.0, lines, named, due)

      sits_next : (j : ℕ) (z : Cell L O) → slice_get (alter (given_cell m clock) cells given) j ≡ Some z → (b : Bool) → eqb given j ≡ b
          → Sits m sound f seats clock (leb (given + 1) j) j z.own z.holder z.before
      sits_next j z e true same =
          let one = eqb-true given j same in
          let is : Some (given_cell m clock x) ≡ Some z = ap (option_map (given_cell m clock)) (sym there ∙ ap (slice_get cells) one)
          ∙ ap (λ b. cond b (option_map (given_cell m clock) (slice_get cells j)) (slice_get cells j)) (sym same) ∙ sym (nth_alter (given_cell m clock) cells given j) ∙ e in
          let is_z : given_cell m clock x ≡ z = cc in
          let out : false ≡ leb (given + 1) given = sym (lt-leb (given + 1) given (omega arith)) in
          subst (λ w. Sits m sound f seats clock (leb (given + 1) j) j w.own w.holder w.before) is_z
          (subst (λ i. Sits m sound f seats clock (leb (given + 1) i) i (m.given clock x.own) x.holder x.before) one
          (subst (λ b. Sits m sound f seats clock b given (m.given clock x.own) x.holder x.before) out kept.3))
      sits_next j z e false other =
          let is : slice_get cells j ≡ Some z = ap (λ b. cond b (option_map (given_cell m clock) (slice_get cells j)) (slice_get cells j)) (sym other) ∙ sym (nth_alter (given_cell m clock) cells given j) ∙ e in
          subst (λ b. Sits m sound f seats clock b j z.own z.holder z.before) (due_later given j other) (v.sits j z is)

      valid_next : Valid m sound f next
      valid_next = record {
        sixteen = v.sixteen;
        counts = let inside = slice_get_within cells given x there in rw (length-alter (given_cell m clock) cells given) (omega arith);
        began = v.began;
        inside = λ s j named. rw (length-alter (given_cell m clock) cells given) (v.inside s j named);
        sits = λ j z e. sits_next j z e (eqb given j) refl;
      }

  -- past the last line nothing is due
  none_left : (t : State L O) → slice_get t.cells t.given ≡ None → drop t.given (map (due_of m t.clock) t.cells) ≡ []
  none_left t none = drop_all t.given (map (due_of m t.clock) t.cells) (let past = nth_none t.cells t.given none in omega (arith, length-map t.cells (due_of m t.clock)))

  -- by the stage, and by what stands next
  shows : (g : Stage) (cells : List (Cell L O)) (seats : List (Option Hand)) (odd sense : Bool) (given : ℕ) (o : Option (Cell L O)) → slice_get cells given ≡ o
      → Valid m sound f (record { cells = cells; seats = seats; clock = record { stage = g; odd = odd; sense = sense }; given = given })
      → (r : Option (Given L)) (u : State L O) → given_out m (record { cells = cells; seats = seats; clock = record { stage = g; odd = odd; sense = sense }; given = given }) ≡ (r, u)
      → Shows (meaning m) (Valid m sound f) r u (gives (meaning m (record { cells = cells; seats = seats; clock = record { stage = g; odd = odd; sense = sense }; given = given })))
  shows Rest cells seats odd sense given o next_is v r u is = shown (meaning m) (Valid m sound f) (None, _) _ v refl r u is
  shows Called cells seats odd sense given o next_is v r u is = shown (meaning m) (Valid m sound f) (None, _) _ v refl r u is
  shows Pointed cells seats odd sense given o next_is v r u is = shown (meaning m) (Valid m sound f) (None, _) _ v refl r u is
  shows Closing cells seats odd sense given o next_is v r u is = shown (meaning m) (Valid m sound f) (None, _) _ v refl r u is
  shows Taking cells seats odd sense given None next_is v r u is =
      let t = here cells seats odd sense given in
      shown (meaning m) (Valid m sound f) (None, t) (gives (meaning m t)) v (ap (λ ds. gave ds (meaning m t)) (none_left t next_is)) r u (sym (ap (λ o. handed m o t) next_is) ∙ is)
  shows Taking cells seats odd sense given (Some x) next_is v r u is =
      let t = here cells seats odd sense given in
      shown (meaning m) (Valid m sound f) (handed m (Some x) t) (gives (meaning m t)) (valid_next cells seats odd sense given v x next_is) (meaning_next cells seats odd sense given v x next_is) r u
      (sym (ap (λ o. handed m o t) next_is) ∙ is)

  pub gives_shown : (t : State L O) → Valid m sound f t → (r : Option (Given L)) (u : State L O) → given_out m t ≡ (r, u) → Shows (meaning m) (Valid m sound f) r u (gives (meaning m t))
  gives_shown t v r u is = shows t.clock.stage t.cells t.seats t.clock.odd t.clock.sense t.given (slice_get t.cells t.given) refl v r u is
