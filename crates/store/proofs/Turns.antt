-- Call and turn on the state are call and turn on the meaning.
use Rattle.std.proofs.Common.{◌≡◌, ℕ, zero, suc, ◌-◌, ◌<◌, Bool, true, false, cond, not, ◌||◌, eqb, leb, List, [], ◌∷◌, map, length, get_or, is_some, Some, None, Ok, Option, Result, sym, refl, ap, ◌∙◌, subst, inl, inr, arith}
use Rattle.std.specs.Option.{option_map}
use Rattle.std.specs.List.{slice_get}
use Rattle.std.proofs.lemmas.List.{length-map, length-drop, map-id}
use Rattle.std.proofs.lemmas.Bool.{eqb-true, eq-eqb, le-leb, lt-leb, cases_Bool}
use Rattle.lines.specs.Changing.{Outcome}
use Rattle.std.proofs.lemmas.Option.{slice_get_within}
use Rattle.std.proofs.lemmas.Simd.{map-map}
use Rattle.keepers.specs.declared.clocks.Clock.{Clock}
use Rattle.keepers.specs.declared.faults.KeeperFault.{KeeperFault}
use Rattle.keepers.specs.declared.faults.KeeperFault.TheVariants.{NotAtRest, WaitsForSeat, WaitsForLines, AtRest}
use Rattle.keepers.specs.declared.stages.Stage.{Stage}
use Rattle.keepers.specs.declared.stages.Stage.TheVariants.{Rest, Called, Pointed, Taking, Closing}
use Rattle.keepers.specs.Calls.{calls, turns, turned, first, lowest, awaits, waiting, point_lines}
use Rattle.keepers.specs.Clocks.{ticked}
use Rattle.keepers.specs.Meanings.{Hand}
use Rattle.keepers.specs.Methods.{Method, Lawful, began_in, committed_line}
use Rattle.keepers.specs.Stages.{same, onward, awaited, allowed}
use Rattle.store.specs.declared.cells.Cell.{Cell}
use Rattle.store.specs.CellRules.{pointed_cell, committed_of, named_of, due_of}
use Rattle.store.specs.States.{State, meaning}
use Rattle.store.specs.Steps.{moved_on, called, waits, turned as turned_on}
use Rattle.store.specs.Validity.{part, Sits, Counts, Valid}
use Rattle.store.proofs.Judging.{Shows, refines}
use Rattle.store.proofs.Numbering.{map_same, map-drop-same}
use Rattle.store.proofs.Reseating.{passed}
use Rattle.store.proofs.Seeing.{nth_of_map, part-began}

-- a turn lets a seat pass only into a stage where it can be open
onward_allowed : (quiet : Bool) (g b : Stage) → allowed quiet g b ≡ true → awaited g b ≡ false → allowed quiet (onward g) b ≡ true
onward_allowed quiet g b may gone = grind arith

stays_open : (quiet : Bool) (g : Stage) (h : Option Hand) → began_in quiet g (option_map (λ w. w.began) h) ≡ true → awaits g h ≡ false
    → began_in quiet (onward g) (option_map (λ w. w.began) h) ≡ true
stays_open quiet g None may gone = refl
stays_open quiet g (Some h) may gone = onward_allowed quiet g h.began may gone

-- where no seat is the lowest that is waited for, none is
lowest_none : {X : Type 0} (p : Option X → Bool) (xs : List (Option X)) → p None ≡ false → option_map (λ s. WaitsForSeat s) (lowest p xs) ≡ None → (s : ℕ) → p (get_or xs s None) ≡ false
lowest_none p [] empty e s = empty
lowest_none p (x ∷ xs) empty e s = here (p x) refl (λ e. lowest_none p xs empty e) e s
  where
    rest_none : (o : Option ℕ) → option_map (λ s. WaitsForSeat s) (option_map (λ i. suc i) o) ≡ None → option_map (λ s. WaitsForSeat s) o ≡ None
    rest_none o e = grind arith

    here : (b : Bool) → p x ≡ b → (option_map (λ s. WaitsForSeat s) (lowest p xs) ≡ None → (s : ℕ) → p (get_or xs s None) ≡ false)
        → option_map (λ s. WaitsForSeat s) (cond b (Some 0) (option_map (λ i. suc i) (lowest p xs))) ≡ None → (s : ℕ) → p (get_or (x ∷ xs) s None) ≡ false
    here true is rest e s = absurd (cc)
    here false is rest e zero = is
    here false is rest e (suc s) = rest (rest_none (lowest p xs) e) s

never_in_taking : (h : Option Hand) → awaits Taking h ≡ false
never_in_taking h = grind arith

-- a turn that does not wait waits for no seat
none_awaited : (g : Stage) (hs : List (Option Hand)) (r : Option KeeperFault) → cond (same g Taking) r (option_map (λ s. WaitsForSeat s) (lowest (awaits g) hs)) ≡ None
    → (s : ℕ) → awaits g (get_or hs s None) ≡ false
none_awaited Rest hs r e s = lowest_none (awaits Rest) hs refl e s
none_awaited Called hs r e s = lowest_none (awaits Called) hs refl e s
none_awaited Pointed hs r e s = lowest_none (awaits Pointed) hs refl e s
none_awaited Taking hs r e s = never_in_taking (get_or hs s None)
none_awaited Closing hs r e s = lowest_none (awaits Closing) hs refl e s

-- nor does a call, which is in Rest
rest_awaits : (g : Stage) (h : Option Hand) → not (same g Rest) ≡ false → awaits g h ≡ false
rest_awaits g h e = grind arith

rest_taking : (g : Stage) → not (same g Rest) ≡ false → g ≡ Taking → ⊥
rest_taking g rest taking = grind arith

-- and no line is due
none_due : (b : Bool) (n : ℕ) → cond b None (Some (WaitsForLines n)) ≡ None → b ≡ true
none_due b n e = grind arith

-- how many lines were given out is not asked of Rest and Called
given-onward : (g : Stage) (d : ℕ) → same g Called ≡ false → cond (same g Closing) 0 (cond (same g Rest || same g Called) 0 d) ≡ cond (same (onward g) Rest || same (onward g) Called) 0 d
given-onward g d e = grind arith

-- what counts before a turn other than the point counts after it
counts-onward : (g : Stage) (d n : ℕ) → same g Called ≡ false → Counts g d n → (g ≡ Taking → d ≡ n) → Counts (onward g) d n
counts-onward Rest d n e c all = c
counts-onward Called d n e c all = absurd (cc)
counts-onward Pointed d n e c all = omega arith
counts-onward Taking d n e c all = all refl
counts-onward Closing d n e c all = c

-- and a line is due just in Pointed
due-onward : (g : Stage) (d n j : ℕ) → same g Called ≡ false → Counts g d n → (g ≡ Taking → d ≡ n) → j < n → leb d j ≡ same g Pointed
due-onward Rest d n j e c all h = lt-leb d j (omega arith)
due-onward Called d n j e c all h = absurd (cc)
due-onward Pointed d n j e c all h = le-leb d j (omega arith)
due-onward Taking d n j e c all h = let k = all refl in lt-leb d j (omega arith)
due-onward Closing d n j e c all h = lt-leb d j (omega arith)

points-map : {X L : Type 0} (a : X → L) (b : X → Bool) (xs : List X) → point_lines (map a xs) (map b xs) ≡ map (λ x. record { line = a x; named = b x }) xs
points-map a b [] = refl
points-map a b (x ∷ xs) = ap (λ ds. record { line = a x; named = b x } ∷ ds) (points-map a b xs)

module _ {L O : Type 0} (m : Method L O) (sound : Clock → Bool → Option Stage → L → O → Type 0) (law : Lawful m sound) (f : L → ℕ → ℕ → Outcome L) where
  -- a turn other than the point, on one cell
  module _ (hs : List (Option Hand)) (k : Clock) (due : Bool) (j : ℕ) (own : O) (before : L) (not_called : same k.stage Called ≡ false) (is_due : due ≡ same k.stage Pointed)
      (now_open : (s : ℕ) → began_in m.quiet k.stage (option_map (λ w. w.began) (get_or hs s None)) ≡ true)
      (then_open : (s : ℕ) → began_in m.quiet (onward k.stage) (option_map (λ w. w.began) (get_or hs s None)) ≡ true) where
    own_part : (t : ℕ) (work : Hand) → ((s : ℕ) → part j (get_or hs s None) ≡ cond (eqb t s) (Some work) None) → part j (get_or hs t None) ≡ Some work
    own_part t work parts = parts t ∙ ap (λ b. cond b (Some work) None) (eq-eqb t t refl)

    turned_kept : (holder : Option ℕ) → Sits m sound f hs k due j own holder before
        → (m.named (ticked k) (is_some holder) own ≡ m.named k (is_some holder) own)
        × (due ≡ true → m.due (ticked k) (is_some holder) before own ≡ m.due k (is_some holder) before own) × Sits m sound f hs (ticked k) due j own holder before
    turned_kept None sits =
        let kept = law.turns_is k due None before own not_called is_due refl refl sits.is_sound in
        (kept.named_is, kept.due_is, record { parts = sits.parts; is_sound = kept.sound_is })
    turned_kept (Some t) sits =
        let mine = own_part t sits.work sits.parts in
        let kept = law.turns_is k due (Some sits.work.began) before own not_called is_due
        (part-began m.quiet k.stage j (get_or hs t None) sits.work mine (now_open t))
        (part-began m.quiet (onward k.stage) j (get_or hs t None) sits.work mine (then_open t)) sits.is_sound in
        (kept.named_is, kept.due_is, record { work = sits.work; parts = sits.parts; made = sits.made; is_sound = kept.sound_is })

  module _ (t : State L O) (v : Valid m sound f t) (then_open : (s : ℕ) → began_in m.quiet (onward t.clock.stage) (option_map (λ w. w.began) (get_or t.seats s None)) ≡ true) where
    module _ (not_called : same t.clock.stage Called ≡ false) (all_out : t.clock.stage ≡ Taking → t.given ≡ length t.cells) where
      kept : (j : ℕ) (x : Cell L O) → slice_get t.cells j ≡ Some x
          → (named_of m (ticked t.clock) x ≡ named_of m t.clock x) × (leb t.given j ≡ true → due_of m (ticked t.clock) x ≡ due_of m t.clock x)
          × Sits m sound f t.seats (ticked t.clock) (leb t.given j) j x.own x.holder x.before
      kept j x there =
          turned_kept t.seats t.clock (leb t.given j) j x.own x.before not_called
          (due-onward t.clock.stage t.given (length t.cells) j not_called v.counts all_out (slice_get_within t.cells j x there)) v.began then_open x.holder (v.sits j x there)

      abbrev on : State L O
      on = record { cells = t.cells; seats = t.seats; clock = ticked t.clock; given = t.given }

      valid_on : Valid m sound f on
      valid_on = record {
        sixteen = v.sixteen;
        counts = counts-onward t.clock.stage t.given (length t.cells) not_called v.counts all_out;
        began = then_open;
        inside = v.inside;
        sits = λ j x there. (kept j x there).2;
      }

      meaning_on : turned (meaning m t) ≡ meaning m on
      meaning_on =
          let named = map_same (named_of m (ticked t.clock)) (named_of m t.clock) t.cells (λ j x there. (kept j x there).0) in
          let due = map-drop-same (due_of m (ticked t.clock)) (due_of m t.clock) t.given t.cells (λ j x there d. (kept j x there).1 (le-leb t.given j d)) in
          let count = given-onward t.clock.stage t.given not_called in
          rw (named, due, ← count, not_called)

      pub moves_on : Valid m sound f (moved_on m t) × (turned (meaning m t) ≡ meaning m (moved_on m t))
      moves_on = subst (λ u. Valid m sound f u × (turned (meaning m t) ≡ meaning m u)) (sym moved) (valid_on, meaning_on)
        where
          moved : moved_on m t ≡ on
          moved = rw not_called

  -- the point on one cell
  module _ (hs : List (Option Hand)) (k : Clock) (j : ℕ) (own : O) (before : L) (is_called : k.stage ≡ Called)
      (now_open : (s : ℕ) → began_in m.quiet Called (option_map (λ w. w.began) (get_or hs s None)) ≡ true)
      (then_open : (s : ℕ) → began_in m.quiet Pointed (option_map (λ w. w.began) (get_or hs s None)) ≡ true) where
    pointed_kept : (holder : Option ℕ) → Sits m sound f hs k false j own holder before
        → (committed_line m (is_some holder) before (m.pointed own) ≡ committed_line m (is_some holder) before own)
        × (m.named (ticked k) (is_some holder) (m.pointed own) ≡ false)
        × (m.due (ticked k) (is_some holder) before (m.pointed own)
        ≡ record { line = committed_line m (is_some holder) before own; named = m.named k (is_some holder) own })
        × Sits m sound f hs (ticked k) true j (m.pointed own) holder before
    pointed_kept None sits =
        let kept = law.points_is k None before own is_called refl refl sits.is_sound in
        (kept.live_is, kept.named_is, kept.due_is refl, record { parts = sits.parts; is_sound = kept.sound_is })
    pointed_kept (Some t) sits =
        let mine : part j (get_or hs t None) ≡ Some sits.work = sits.parts t ∙ ap (λ b. cond b (Some sits.work) None) (eq-eqb t t refl) in
        let kept = law.points_is k (Some sits.work.began) before own is_called (part-began m.quiet Called j (get_or hs t None) sits.work mine (now_open t))
        (part-began m.quiet Pointed j (get_or hs t None) sits.work mine (then_open t)) sits.is_sound in (
          refl,
          kept.named_is,
          kept.due_is refl,
          record { work = sits.work; parts = sits.parts; made = sits.made ∙ ap (λ x. Ok x) (sym kept.live_is); is_sound = kept.sound_is },
        )

  module _ (cells : List (Cell L O)) (seats : List (Option Hand)) (odd sense : Bool) (given : ℕ) where
    abbrev before_point : State L O
    before_point = record { cells = cells; seats = seats; clock = record { stage = Called; odd = odd; sense = sense }; given = given }

    abbrev after_point : State L O
    after_point = record { cells = map (pointed_cell m) cells; seats = seats; clock = ticked before_point.clock; given = 0 }

    -- where the method does not sweep, its rule alters no cell
    swept : moved_on m before_point ≡ after_point
    swept = elim (cases_Bool m.sweeps) [
      | inl sweeps ↦ rw sweeps
      | inr quiet ↦ rw quiet (ap (λ xs. record { cells = xs; seats = seats; clock = ticked before_point.clock; given = 0 })
          (sym (map_same (pointed_cell m) (λ x. x) cells (λ j x there. ap (λ o. record { own = o; holder = x.holder; before = x.before }) (law.still quiet x.own)) ∙ map-id cells)))
    ]

    module _ (v : Valid m sound f before_point) (then_open : (s : ℕ) → began_in m.quiet Pointed (option_map (λ w. w.began) (get_or seats s None)) ≡ true) where
      shown : (j : ℕ) (x : Cell L O) → slice_get cells j ≡ Some x
          → (committed_of m (pointed_cell m x) ≡ committed_of m x) × (named_of m after_point.clock (pointed_cell m x) ≡ false)
          × (due_of m after_point.clock (pointed_cell m x) ≡ record { line = committed_of m x; named = named_of m before_point.clock x })
          × Sits m sound f seats after_point.clock true j (m.pointed x.own) x.holder x.before
      shown j x there =
          let not_due : leb given j ≡ false = let inside = slice_get_within cells j x there in let all : given ≡ length cells = v.counts in lt-leb given j (omega arith) in
          pointed_kept seats before_point.clock j x.own x.before refl v.began then_open x.holder
          (subst (λ b. Sits m sound f seats before_point.clock b j x.own x.holder x.before) not_due (v.sits j x there))

      valid_point : Valid m sound f after_point
      valid_point = record {
        sixteen = v.sixteen;
        counts = refl;
        began = then_open;
        inside = λ s j named. rw (length-map cells (pointed_cell m)) (v.inside s j named);
        sits = λ j z p.
            let x = nth_of_map (pointed_cell m) cells j z p in
            let due : true ≡ leb 0 j = sym (le-leb 0 j (omega arith)) in
            subst (λ w. Sits m sound f seats after_point.clock (leb 0 j) j w.own w.holder w.before) x.2
            (subst (λ b. Sits m sound f seats after_point.clock b j (m.pointed x.0.own) x.0.holder x.0.before) due (shown j x.0 x.1).3);
      }

      meaning-point : turned (meaning m before_point) ≡ meaning m after_point
      meaning-point =
          let lines = map-map (committed_of m) (pointed_cell m) cells ∙ map_same (λ x. committed_of m (pointed_cell m x)) (committed_of m) cells (λ j x there. (shown j x there).0) in
          let named = map-map (named_of m after_point.clock) (pointed_cell m) cells
          ∙ map_same (λ x. named_of m after_point.clock (pointed_cell m x)) (λ x. false) cells (λ j x there. (shown j x there).1) in
          let due = map-map (due_of m after_point.clock) (pointed_cell m) cells
          ∙ map_same (λ x. due_of m after_point.clock (pointed_cell m x)) (λ x. record { line = committed_of m x; named = named_of m before_point.clock x }) cells (λ j x there. (shown j x there).2) in
          rw (lines, named, due, map-map (λ (b : Bool). false) (named_of m before_point.clock) cells, points-map (committed_of m) (named_of m before_point.clock) cells)

      moves_point : Valid m sound f (moved_on m before_point) × (turned (meaning m before_point) ≡ meaning m (moved_on m before_point))
      moves_point = subst (λ u. Valid m sound f u × (turned (meaning m before_point) ≡ meaning m u)) (sym swept) (valid_point, meaning-point)

  -- any turn
  moves : (g : Stage) (cells : List (Cell L O)) (seats : List (Option Hand)) (odd sense : Bool) (given : ℕ)
      → Valid m sound f (record { cells = cells; seats = seats; clock = record { stage = g; odd = odd; sense = sense }; given = given })
      → ((s : ℕ) → awaits g (get_or seats s None) ≡ false) → (g ≡ Taking → given ≡ length cells)
      → Valid m sound f (moved_on m (record { cells = cells; seats = seats; clock = record { stage = g; odd = odd; sense = sense }; given = given }))
      × (turned (meaning m (record { cells = cells; seats = seats; clock = record { stage = g; odd = odd; sense = sense }; given = given }))
      ≡ meaning m (moved_on m (record { cells = cells; seats = seats; clock = record { stage = g; odd = odd; sense = sense }; given = given })))
  moves Called cells seats odd sense given v gone all_out = moves_point cells seats odd sense given v (λ s. stays_open m.quiet Called (get_or seats s None) (v.began s) (gone s))
  moves Rest cells seats odd sense given v gone all_out = moves_on _ v (λ s. stays_open m.quiet Rest (get_or seats s None) (v.began s) (gone s)) refl all_out
  moves Pointed cells seats odd sense given v gone all_out = moves_on _ v (λ s. stays_open m.quiet Pointed (get_or seats s None) (v.began s) (gone s)) refl all_out
  moves Taking cells seats odd sense given v gone all_out = moves_on _ v (λ s. stays_open m.quiet Taking (get_or seats s None) (v.began s) (gone s)) refl all_out
  moves Closing cells seats odd sense given v gone all_out = moves_on _ v (λ s. stays_open m.quiet Closing (get_or seats s None) (v.began s) (gone s)) refl all_out

  module _ (t : State L O) where
    pub waiting-same : waiting (meaning m t) ≡ waits t
    waiting-same = rw (length-drop t.given (map (due_of m t.clock) t.cells), length-map t.cells (due_of m t.clock))

    all-given : Valid m sound f t → waits t ≡ None → t.clock.stage ≡ Taking → t.given ≡ length t.cells
    all-given v none taking =
        let counted : Counts Taking t.given (length t.cells) = subst (λ g. Counts g t.given (length t.cells)) taking v.counts in
        let left = ap (λ g. cond (same g Taking) (cond (eqb (length t.cells - t.given) 0) None (Some (WaitsForLines (length t.cells - t.given))))
        (option_map (λ s. WaitsForSeat s) (lowest (awaits t.clock.stage) t.seats))) (sym taking) ∙ none in
        let zero_left = eqb-true (length t.cells - t.given) 0 (none_due (eqb (length t.cells - t.given) 0) (length t.cells - t.given) left) in
        omega arith

    module _ (v : Valid m sound f t) where
      pub turns_shown : (r : Result (Unit {0}) KeeperFault) (u : State L O) → turned_on m t ≡ (r, u) → Shows (meaning m) (Valid m sound f) r u (turns (meaning m t))
      turns_shown r u is =
          refines (meaning m) (Valid m sound f) (first ((same t.clock.stage Rest, AtRest) ∷ []) (waits t)) (first ((same t.clock.stage Rest, AtRest) ∷ []) (waiting (meaning m t))) tt
          (moved_on m t) t (turned (meaning m t)) (rw waiting-same) v
          (λ none.
          let free = (passed (same t.clock.stage Rest) AtRest (waits t) none).1 in
          moves t.clock.stage t.cells t.seats t.clock.odd t.clock.sense t.given v (none_awaited t.clock.stage t.seats _ free) (all-given v free))
          r u is

      pub calls_shown : (r : Result (Unit {0}) KeeperFault) (u : State L O) → called m t ≡ (r, u) → Shows (meaning m) (Valid m sound f) r u (calls (meaning m t))
      calls_shown r u is =
          refines (meaning m) (Valid m sound f) (first ((not (same t.clock.stage Rest), NotAtRest t.clock.stage) ∷ []) None)
          (first ((not (same t.clock.stage Rest), NotAtRest t.clock.stage) ∷ []) None) tt (moved_on m t) t (turned (meaning m t)) refl v
          (λ none.
          let rest = (passed (not (same t.clock.stage Rest)) (NotAtRest t.clock.stage) None none).0 in
          moves t.clock.stage t.cells t.seats t.clock.odd t.clock.sense t.given v
          (λ s. rest_awaits t.clock.stage (get_or t.seats s None) rest) (λ taking. absurd (rest_taking t.clock.stage rest taking)))
          r u is
