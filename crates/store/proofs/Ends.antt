-- Commit and abandon on the state are commit and abandon on the meaning.
use Rattle.std.proofs.Common.{◌≡◌, ℕ, ◌<◌, Bool, true, false, cond, not, ◌||◌, eqb, leb, List, [], ◌∷◌, map, length, get_or, drop, set, is_some, Some, None, Option, Result, sym, refl, ap, ◌∙◌, subst, inl, inr, arith}
use Rattle.std.specs.Option.{option_map}
use Rattle.std.specs.List.{slice_get}
use Rattle.std.proofs.lemmas.List.{length-map, length-set, map-id}
use Rattle.std.proofs.lemmas.Bool.{or_right, eq-eqb, eqb-true, cases_Bool, le-leb}
use Rattle.lines.specs.declared.changes.Change.{Change}
use Rattle.lines.specs.Changing.{Outcome}
use Rattle.std.proofs.lemmas.Simd.{map-map}
use Rattle.keepers.specs.declared.clocks.Clock.{Clock}
use Rattle.keepers.specs.declared.faults.KeeperFault.{KeeperFault}
use Rattle.keepers.specs.declared.faults.KeeperFault.TheVariants.{NoSuchSeat, SeatNotOpen}
use Rattle.keepers.specs.declared.stages.Stage.{Stage}
use Rattle.keepers.specs.Calls.{commits, abandons, committed, first, name, with_seat}
use Rattle.keepers.specs.Meanings.{Hand, names, changes_of_hand}
use Rattle.keepers.specs.Methods.{Method, Lawful, Kept, began_in}
use Rattle.keepers.specs.Stages.{allowed}
use Rattle.store.specs.declared.cells.Cell.{Cell}
use Rattle.store.specs.declared.cells.End.{End}
use Rattle.store.specs.declared.cells.End.TheVariants.{Commit, Abandon}
use Rattle.store.specs.CellRules.{by, elsewhere, ending, ended_cell, committed_of, named_of, due_of, alter, walk}
use Rattle.store.specs.States.{State, meaning}
use Rattle.store.specs.Steps.{hand_at, with_hand, with_cells, ended_cells, ended_state, ended}
use Rattle.store.specs.Validity.{part, Sits, Valid}
use Rattle.store.proofs.Judging.{Shows, refines}
use Rattle.store.proofs.Numbering.{nth_set, nth_there, nth_alter, ext_nth, map_same, map-alter, map-drop-same, get_d_set}
use Rattle.store.proofs.Parts.{part_some}
use Rattle.store.proofs.Reseating.{passed, open_hand, seat_within, all-seats, part_frame}
use Rattle.store.proofs.Seeing.{nth_of_map, seen_of, sits_frame, alone, not_mine, sits-names, sees}

-- A walk that changes nothing where it does not pass, and nothing when it passes again, makes its rule everywhere.
walk-map : {X : Type 0} (f : X → X) → ((x : X) → f (f x) ≡ f x) → (cs : List Change) (xs : List X) → ((j : ℕ) (x : X) → slice_get xs j ≡ Some x → names cs j ≡ false → f x ≡ x)
    → walk f cs xs ≡ map f xs
walk-map f again [] xs rest = sym (map_same f (λ x. x) xs (λ j x p. rest j x p refl) ∙ map-id xs)
walk-map f again (c ∷ cs) xs rest =
    walk-map f again cs (alter f xs c.line) (λ j x p none. here j x none p (eqb c.line j) refl) ∙ map-alter f f xs c.line (λ x p. again x)
  where
    here : (j : ℕ) (x : _) → names cs j ≡ false → slice_get (alter f xs c.line) j ≡ Some x → (b : Bool) → eqb c.line j ≡ b → f x ≡ x
    here j x none p true same = old (slice_get xs j) refl (ap (λ b. cond b (option_map f (slice_get xs j)) (slice_get xs j)) (sym same) ∙ sym (nth_alter f xs c.line j) ∙ p)
      where
        old : (o : Option _) → slice_get xs j ≡ o → option_map f o ≡ Some x → f x ≡ x
        old None is q = absurd (cc)
        old (Some y) is q = let e : f y ≡ x = cc in subst (λ v. f v ≡ v) e (again y)
    here j x none p false other =
        rest j x (ap (λ b. cond b (option_map f (slice_get xs j)) (slice_get xs j)) (sym other) ∙ sym (nth_alter f xs c.line j) ∙ p) (ap (λ b. b || names cs j) other ∙ none)

-- naming lines, line by line
names_lines : (cs : List Change) (bs bs' : List Bool) → length bs ≡ length bs' → ((j : ℕ) → names cs j ≡ true → j < length bs)
    → ((j : ℕ) (b b' : Bool) → slice_get bs j ≡ Some b → slice_get bs' j ≡ Some b' → b' ≡ (names cs j || b)) → name cs bs ≡ bs'
names_lines [] bs bs' long inside is = ext_nth bs bs' long (λ j b b' p q. sym (is j b b' p q))
names_lines (c ∷ cs) bs bs' long inside is =
    names_lines cs (set bs c.line true) bs' (length-set bs c.line true ∙ long)
    (λ j p. let h = inside j (or_right (eqb c.line j) (names cs j) p) in omega (arith, h, length-set bs c.line true))
    (λ j b b' p q. here j b b' q (eqb c.line j) refl (sym (nth_set bs c.line j true within) ∙ p))
  where
    within : c.line < length bs
    within = inside c.line (ap (λ b. b || names cs c.line) (eq-eqb c.line c.line refl))

    here : (j : ℕ) (b b' : Bool) → slice_get bs' j ≡ Some b' → (e : Bool) → eqb c.line j ≡ e → cond (eqb c.line j) (Some true) (slice_get bs j) ≡ Some b → b' ≡ (names cs j || b)
    here j b b' q true same p =
        let now_named : true ≡ b = let k : Some true ≡ Some b = ap (λ e. cond e (Some true) (slice_get bs j)) (sym same) ∙ p in cc in
        let old = nth_there bs j (subst (λ i. i < length bs) (eqb-true c.line j same) within) in
        is j old.0 b' old.1 q ∙ ap (λ e. (e || names cs j) || old.0) same ∙ sym (or_right (names cs j) true refl) ∙ ap (λ d. names cs j || d) now_named
    here j b b' q false other p =
        is j b b' (ap (λ e. cond e (Some true) (slice_get bs j)) (sym other) ∙ p) q ∙ ap (λ e. (e || names cs j) || b) other

-- the line of a cell after the end of its holder's command, and whether it is then named
abbrev line_after : {L O : Type 0} → Method L O → End → O → L → L
line_after m Commit own before = m.live own
line_after m Abandon own before = before

abbrev named_after : {L O : Type 0} → Method L O → End → Clock → O → Bool
named_after m Commit k own = true
named_after m Abandon k own = m.named k true own

held_some : (holder : Option ℕ) (s : ℕ) → by holder s ≡ true → elsewhere holder s ≡ false
held_some None s e = absurd (cc)
held_some (Some t) s e = ap not e

-- nobody holds what its holder let go
let_go : (holder : Option ℕ) (s : ℕ) (b : Bool) → by holder s ≡ b → by (cond b None holder) s ≡ false
let_go holder s true e = refl
let_go holder s false e = e

module _ {L O : Type 0} (m : Method L O) (sound : Clock → Bool → Option Stage → L → O → Type 0) (law : Lawful m sound) (f : L → ℕ → ℕ → Outcome L) (e : End) where
  ending_kept : (k : Clock) (due : Bool) (b : Stage) (before : L) (own : O) → allowed m.quiet k.stage b ≡ true → sound k due (Some b) before own
      → Kept m sound k due (m.due k true before own) None before (ending m e k b own before) (line_after m e own before) (named_after m e k own)
  ending_kept k due b before own may is = elim e as (λ d. Kept m sound k due (m.due k true before own) None before (ending m d k b own before) (line_after m d own before) (named_after m d k own)) [
    | Commit ↦ law.commit_is k due b before own may is
    | Abandon ↦ law.abandon_is k due b before own may is
  ]

  -- the same for the cell that a seat holds, by the stage in which the seat began
  ended_kept : (hs : List (Option Hand)) (k : Clock) (due : Bool) (j : ℕ) (own : O) (before : L) (holder : Option ℕ) (s : ℕ) (h : Hand) → get_or hs s None ≡ Some h
      → allowed m.quiet k.stage h.began ≡ true → by holder s ≡ true → Sits m sound f hs k due j own holder before
      → Kept m sound k due (m.due k (is_some holder) before own) None before (ending m e k h.began own before) (line_after m e own before) (named_after m e k own)
  ended_kept hs k due j own before None s h opened may mine sits = absurd (cc)
  ended_kept hs k due j own before (Some t) s h opened may mine sits =
      let own_part = part_some (get_or hs s None) j sits.work (sits.parts s ∙ ap (λ b. cond b (Some sits.work) None) mine) in
      let one : sits.work.began ≡ h.began = own_part.2 h opened in
      ending_kept k due h.began before own may (subst (λ b. sound k due (Some b) before own) one sits.is_sound)

  module _ (s : ℕ) (t : State L O) (v : Valid m sound f t) (h : Hand) (seated : leb 16 s ≡ false) (opened : hand_at t s ≡ Some h) where
    abbrev rule : Cell L O → Cell L O
    rule = ended_cell m e t.clock s h.began

    within : s < length t.seats
    within = seat_within t.seats s v.sixteen seated

    may : allowed m.quiet t.clock.stage h.began ≡ true
    may = ap (λ o. began_in m.quiet t.clock.stage (option_map (λ w. w.began) o)) (sym opened) ∙ v.began s

    rule_other : (x : Cell L O) → by x.holder s ≡ false → rule x ≡ x
    rule_other x other = rw other

    rule_again : (x : Cell L O) → rule (rule x) ≡ rule x
    rule_again x = rule_other (rule x) (let_go x.holder s (by x.holder s) refl)

    names-by : (j : ℕ) (x : Cell L O) → slice_get t.cells j ≡ Some x → names h.changes j ≡ by x.holder s
    names-by j x there =
        ap (λ o. names (changes_of_hand o) j) (sym opened) ∙ sits-names m sound f t.seats t.clock (leb t.given j) j x.own x.before x.holder (v.sits j x there) s

    walk_is : walk rule h.changes t.cells ≡ map rule t.cells
    walk_is = walk-map rule rule_again h.changes t.cells (λ j x there none. rule_other x (sym (names-by j x there) ∙ none))

    kept : (j : ℕ) (x : Cell L O) → slice_get t.cells j ≡ Some x → by x.holder s ≡ true
        → Kept m sound t.clock (leb t.given j) (due_of m t.clock x) None x.before (ending m e t.clock h.began x.own x.before) (line_after m e x.own x.before) (named_after m e t.clock x.own)
    kept j x there mine = ended_kept t.seats t.clock (leb t.given j) j x.own x.before x.holder s h opened may mine (v.sits j x there)

    abbrev done : State L O
    done = with_hand s None (with_cells (map rule t.cells) t)

    due-same : drop t.given (map (due_of m t.clock) (map rule t.cells)) ≡ drop t.given (map (due_of m t.clock) t.cells)
    due-same =
        ap (drop t.given) (map-map (due_of m t.clock) rule t.cells)
        ∙ map-drop-same (λ x. due_of m t.clock (rule x)) (due_of m t.clock) t.given t.cells
        (λ j x there d. elim (cases_Bool (by x.holder s)) [
          | inl mine ↦ rw mine ((kept j x there mine).due_is (le-leb t.given j d))
          | inr other ↦ ap (due_of m t.clock) (rule_other x other)
        ])

    sits-ended : (j : ℕ) (x : Cell L O) → slice_get t.cells j ≡ Some x → Sits m sound f (set t.seats s None) t.clock (leb t.given j) j (rule x).own (rule x).holder (rule x).before
    sits-ended j x there = elim (cases_Bool (by x.holder s)) [
      | inl mine ↦
          rw mine
          (
          record {
            parts = λ r. elim (cases_Bool (eqb s r)) [
              | inl same ↦ ap (part j) (get_d_set t.seats s r None None within ∙ ap (λ b. cond b None (get_or t.seats r None)) same)
              | inr other ↦
                  ap (part j) (get_d_set t.seats s r None None within ∙ ap (λ b. cond b None (get_or t.seats r None)) other)
                  ∙ alone m sound f t.seats t.clock (leb t.given j) j x.own x.before x.holder s r (held_some x.holder s mine) other (v.sits j x there)
            ];
            is_sound = (kept j x there mine).sound_is;
          }
          )
      | inr other ↦
          rw other
          (
          sits_frame m sound f t.seats (set t.seats s None) t.clock (leb t.given j) j x.own x.holder x.before
          (
          part_frame t.seats s within None j
          (not_mine m sound f t.seats t.clock (leb t.given j) j x.own x.before x.holder s other (v.sits j x there))
          )
          (v.sits j x there)
          )
    ]

    valid_ended : Valid m sound f done
    valid_ended = record {
      sixteen = length-set t.seats s None ∙ v.sixteen;
      counts = rw (length-map t.cells rule) v.counts;
      began = all-seats t.seats s within None (λ o. began_in m.quiet t.clock.stage (option_map (λ w. w.began) o) ≡ true) refl v.began;
      inside = λ r j p.
          rw (length-map t.cells rule)
          (
          all-seats t.seats s within None (λ o. (j : ℕ) → names (changes_of_hand o) j ≡ true → j < length t.cells)
          (λ j p. absurd (cc)) v.inside r j p
          );
      sits = λ j z p.
          let x = nth_of_map rule t.cells j z p in
          subst (λ w. Sits m sound f (set t.seats s None) t.clock (leb t.given j) j w.own w.holder w.before) x.2 (sits-ended j x.0 x.1);
    }

    -- what each cell shows, all cells show
    shown_all : {A : Type 0} (g g' : Cell L O → A) → ((j : ℕ) (x : Cell L O) → slice_get t.cells j ≡ Some x → (b : Bool) → by x.holder s ≡ b → g (rule x) ≡ g' x)
        → map g (map rule t.cells) ≡ map g' t.cells
    shown_all g g' same = map-map g rule t.cells ∙ map_same (λ x. g (rule x)) g' t.cells (λ j x there. same j x there (by x.holder s) refl)

held_there : (holder : Option ℕ) (s : ℕ) → by holder s ≡ true → is_some holder ≡ true
held_there None s e = absurd (cc)
held_there (Some t) s e = refl

module _ {L O : Type 0} (m : Method L O) (sound : Clock → Bool → Option Stage → L → O → Type 0) (law : Lawful m sound) (f : L → ℕ → ℕ → Outcome L)
    (s : ℕ) (t : State L O) (v : Valid m sound f t) where
  module _ (h : Hand) (seated : leb 16 s ≡ false) (opened : hand_at t s ≡ Some h) where
    named_committed : (j : ℕ) (x : Cell L O) → slice_get t.cells j ≡ Some x
        → named_of m t.clock (rule m sound law f Commit s t v h seated opened x) ≡ (names h.changes j || named_of m t.clock x)
    named_committed j x there =
        let one = rule m sound law f Commit s t v h seated opened in
        let here : named_of m t.clock (one x) ≡ (by x.holder s || named_of m t.clock x) =
        elim (cases_Bool (by x.holder s)) [ inl mine ↦ rw mine (kept m sound law f Commit s t v h seated opened j x there mine).named_is | inr other ↦ rw other refl ] in
        here ∙ ap (λ d. d || named_of m t.clock x) (sym (names-by m sound law f Commit s t v h seated opened j x there))

    names_committed : name h.changes (map (named_of m t.clock) t.cells) ≡ map (named_of m t.clock) (map (rule m sound law f Commit s t v h seated opened) t.cells)
    names_committed =
        let one = rule m sound law f Commit s t v h seated opened in
        let known = named_of m t.clock in
        names_lines h.changes (map known t.cells) (map (λ x. known (one x)) t.cells) (length-map t.cells known ∙ sym (length-map t.cells (λ x. known (one x))))
        (λ j p. let inside = v.inside s j (ap (λ o. names (changes_of_hand o) j) opened ∙ p) in omega (arith, inside, length-map t.cells known))
        (λ j b b' p q.
        let x = nth_of_map known t.cells j b p in
        let y = nth_of_map (λ z. known (one z)) t.cells j b' q in
        let same : y.0 ≡ x.0 = let k : Some y.0 ≡ Some x.0 = sym y.1 ∙ x.1 in cc in
        sym y.2 ∙ ap (λ z. known (one z)) same ∙ named_committed j x.0 x.1 ∙ ap (λ d. names h.changes j || d) x.2)
        ∙ sym (map-map known one t.cells)

    meaning_committed : committed f s (meaning m t) ≡ meaning m (done m sound law f Commit s t v h seated opened)
    meaning_committed =
        let one = rule m sound law f Commit s t v h seated opened in
        let lines = sees m sound f t v s ∙ sym (shown_all m sound law f Commit s t v h seated opened (committed_of m) (seen_of m sound f s)
        (λ j x there b is. elim b as (λ d. by x.holder s ≡ d → committed_of m (one x) ≡ seen_of m sound f s x) [
          | true ↦ λ mine. rw mine (kept m sound law f Commit s t v h seated opened j x there mine).live_is
          | false ↦ λ other. rw other refl
        ] is)) in
        let named = ap (λ o. name (changes_of_hand o) (map (named_of m t.clock) t.cells)) opened ∙ names_committed in
        rw (lines, named, due-same m sound law f Commit s t v h seated opened)

    meaning_abandoned : with_seat s None (meaning m t) ≡ meaning m (done m sound law f Abandon s t v h seated opened)
    meaning_abandoned =
        let one = rule m sound law f Abandon s t v h seated opened in
        let lines = shown_all m sound law f Abandon s t v h seated opened (committed_of m) (committed_of m)
        (λ j x there b is. elim b as (λ d. by x.holder s ≡ d → committed_of m (one x) ≡ committed_of m x) [
          | true ↦ λ mine. rw (mine, held_there x.holder s mine) (kept m sound law f Abandon s t v h seated opened j x there mine).live_is
          | false ↦ λ other. rw other refl
        ] is) in
        let named = shown_all m sound law f Abandon s t v h seated opened (named_of m t.clock) (named_of m t.clock)
        (λ j x there b is. elim b as (λ d. by x.holder s ≡ d → named_of m t.clock (one x) ≡ named_of m t.clock x) [
          | true ↦ λ mine. rw mine ((kept m sound law f Abandon s t v h seated opened j x there mine).named_is ∙ ap (λ d. m.named t.clock d x.own) (sym (held_there x.holder s mine)))
          | false ↦ λ other. rw other refl
        ] is) in
        rw (lines, named, due-same m sound law f Abandon s t v h seated opened)

  abbrev refusals : Option KeeperFault
  refusals = first ((leb 16 s, NoSuchSeat s) ∷ (not (is_some (hand_at t s)), SeatNotOpen s) ∷ []) None

  -- where neither refusal stands, the seat is there and open
  found_open : refusals ≡ None → (leb 16 s ≡ false) × ((h : Hand) × (hand_at t s ≡ Some h))
  found_open none =
      let seat = passed (leb 16 s) (NoSuchSeat s) (first ((not (is_some (hand_at t s)), SeatNotOpen s) ∷ []) None) none in
      let shut = passed (not (is_some (hand_at t s))) (SeatNotOpen s) None seat.1 in
      (seat.0, open_hand (hand_at t s) shut.0)

  ended_is : (e : End) (h : Hand) (seated : leb 16 s ≡ false) (opened : hand_at t s ≡ Some h) → ended_state m e s t ≡ done m sound law f e s t v h seated opened
  ended_is e h seated opened =
      ap (λ o. with_hand s None (with_cells (ended_cells m e t.clock s o t.cells) t)) opened ∙ ap (λ cells. with_hand s None (with_cells cells t)) (walk_is m sound law f e s t v h seated opened)

  pub commits_shown : (r : Result (Unit {0}) KeeperFault) (u : State L O) → ended m Commit s t ≡ (r, u) → Shows (meaning m) (Valid m sound f) r u (commits f s (meaning m t))
  commits_shown r u is =
      refines (meaning m) (Valid m sound f) refusals refusals tt (ended_state m Commit s t) t (committed f s (meaning m t)) refl v
      (λ none.
      let o = found_open none in
      subst (λ w. Valid m sound f w × (committed f s (meaning m t) ≡ meaning m w)) (sym (ended_is Commit o.1.0 o.0 o.1.1))
      (valid_ended m sound law f Commit s t v o.1.0 o.0 o.1.1, meaning_committed o.1.0 o.0 o.1.1))
      r u is

  pub abandons_shown : (r : Result (Unit {0}) KeeperFault) (u : State L O) → ended m Abandon s t ≡ (r, u) → Shows (meaning m) (Valid m sound f) r u (abandons s (meaning m t))
  abandons_shown r u is =
      refines (meaning m) (Valid m sound f) refusals refusals tt (ended_state m Abandon s t) t (with_seat s None (meaning m t)) refl v
      (λ none.
      let o = found_open none in
      subst (λ w. Valid m sound f w × (with_seat s None (meaning m t) ≡ meaning m w)) (sym (ended_is Abandon o.1.0 o.0 o.1.1))
      (valid_ended m sound law f Abandon s t v o.1.0 o.0 o.1.1, meaning_abandoned o.1.0 o.0 o.1.1))
      r u is
