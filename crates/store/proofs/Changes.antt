-- Change on the state is change on the meaning.
use Rattle.std.proofs.Common.{◌≡◌, ℕ, ◌<◌, Bool, true, false, cond, not, ◌||◌, eqb, leb, List, [], ◌∷◌, ◌++◌, map, length, get_or, set, is_some, Some, None, Ok, Err, Option, Result, sym, refl, ap, ◌∙◌, subst, inl, inr, arith}
use Rattle.std.specs.Option.{option_map}
use Rattle.std.specs.List.{slice_get}
use Rattle.std.proofs.lemmas.List.{length-map, length-set, append-nil}
use Rattle.std.proofs.lemmas.Bool.{eq-eqb, eqb-true, cases_Bool, leb-false, not-false, le-leb, or_right}
use Rattle.lines.specs.declared.changes.Change.{Change}
use Rattle.lines.specs.declared.faults.LineFault.{LineFault}
use Rattle.lines.specs.declared.faults.LineFault.TheVariants.{NoSuchLine}
use Rattle.lines.specs.Changing.{Outcome}
use Rattle.lines.specs.Numbered.{change, make}
use Rattle.std.proofs.lemmas.Option.{slice_get-map, slice_get_within}
use Rattle.keepers.specs.declared.clocks.Clock.{Clock}
use Rattle.keepers.specs.declared.faults.KeeperFault.{KeeperFault}
use Rattle.keepers.specs.declared.faults.KeeperFault.TheVariants.{NoSuchSeat, SeatNotOpen, Held, FifthChange, Line}
use Rattle.keepers.specs.declared.stages.Stage.{Stage}
use Rattle.keepers.specs.Calls.{changes, first, line_fault, added, with_seat}
use Rattle.keepers.specs.Meanings.{Hand, names, changes_of_hand, held, seen}
use Rattle.keepers.specs.Methods.{Method, Lawful, Kept, began_in, committed_line}
use Rattle.keepers.specs.Stages.{allowed}
use Rattle.store.specs.declared.cells.Cell.{Cell}
use Rattle.store.specs.CellRules.{by, elsewhere, changed_cell, committed_of, named_of, due_of, alter}
use Rattle.store.specs.States.{State, meaning}
use Rattle.store.specs.Steps.{hand_at, with_hand, with_cells, held_at, tried, changed_state, changed}
use Rattle.store.specs.Validity.{ran, only, part, Sits, Valid}
use Rattle.store.proofs.Judging.{Shows, refines}
use Rattle.store.proofs.Numbering.{nth_there, nth_alter, length-alter, map-alter, drop-map-alter, get_d_set}
use Rattle.store.proofs.Parts.{or_false, only_more, names_more, part_some}
use Rattle.store.proofs.Reseating.{open_hand, seat_within, all-seats, part_frame}
use Rattle.store.proofs.Running.{ran_more}
use Rattle.store.proofs.Seeing.{seen_of, sits_frame, alone, sees_cell, sees, held_is}

-- the table of refusals, over its tests
abbrev table : ℕ → Change → Bool → Bool → Bool → Bool → Bool → Option KeeperFault → Option KeeperFault
table s c seat shut past other four r =
    first ((seat, NoSuchSeat s) ∷ (shut, SeatNotOpen s) ∷ (past, Line (NoSuchLine c.line)) ∷ (other, Held c.line) ∷ (four, FifthChange s) ∷ []) r

-- tests that are only asked where those before them fail
same_table : (s : ℕ) (c : Change) (seat shut past other other' four : Bool) (r r' : Option KeeperFault)
    → (seat ≡ false → past ≡ false → other' ≡ other) → (seat ≡ false → past ≡ false → other ≡ false → r' ≡ r)
    → table s c seat shut past other' four r' ≡ table s c seat shut past other four r
same_table s c true shut past other other' four r r' p q = refl
same_table s c false true past other other' four r r' p q = refl
same_table s c false false true other other' four r r' p q = refl
same_table s c false false false true other' four r r' p q = rw (p refl refl)
same_table s c false false false false other' four r r' p q = rw (p refl refl, q refl refl refl)

-- what stands where no test held
record Passed {L : Type 0} (seat shut past other : Bool) (a : Result L LineFault) : Type 0 where
  pub seat_is : seat ≡ false
  pub shut_is : shut ≡ false
  pub past_is : past ≡ false
  pub other_is : other ≡ false
  pub line : L
  pub takes : a ≡ Ok line

all_passed : {L : Type 0} (s : ℕ) (c : Change) (seat shut past other four : Bool) (a : Result L LineFault) → table s c seat shut past other four (line_fault a) ≡ None → Passed seat shut past other a
all_passed s c false false false false false (Ok x) e = record { seat_is = refl; shut_is = refl; past_is = refl; other_is = refl; line = x; takes = refl }
all_passed s c false false false false false (Err fault) e = absurd (cc)
all_passed s c false false false false true a e = absurd (cc)
all_passed s c false false false true four a e = absurd (cc)
all_passed s c false false true other four a e = absurd (cc)
all_passed s c false true past other four a e = absurd (cc)
all_passed s c true shut past other four a e = absurd (cc)

-- a change on a line of a list is refused as the line refuses it
made_fault : {L : Type 0} (f : L → ℕ → ℕ → Outcome L) (ls : List L) (c : Change) (x : L) → slice_get ls c.line ≡ Some x → (r : Result L LineFault) → change f x c ≡ r
    → line_fault (make f ls c) ≡ line_fault r
made_fault f ls c x there (Ok y) e = rw (there, e)
made_fault f ls c x there (Err fault) e = rw (there, e)

module _ {L O : Type 0} (m : Method L O) (sound : Clock → Bool → Option Stage → L → O → Type 0) (law : Lawful m sound) (f : L → ℕ → ℕ → Outcome L) where
  seen_live : (own : O) (before : L) (holder : Option ℕ) (s : ℕ) → elsewhere holder s ≡ false → cond (by holder s) (m.live own) (committed_line m (is_some holder) before own) ≡ m.live own
  seen_live own before None s e = refl
  seen_live own before (Some t) s e = ap (λ b. cond b (m.live own) before) (not-false (eqb t s) e)

  -- the rule for the first change of a line or for a later one
  changed_kept : (hs : List (Option Hand)) (k : Clock) (due : Bool) (i : ℕ) (own : O) (before : L) (holder : Option ℕ) (s : ℕ) (h : Hand) (y : L) → get_or hs s None ≡ Some h
      → allowed m.quiet k.stage h.began ≡ true → elsewhere holder s ≡ false → Sits m sound f hs k due i own holder before
      → Kept m sound k due (m.due k (is_some holder) before own) (Some h.began) (cond (is_some holder) before (m.live own))
      (cond (is_some holder) (m.later k own y) (m.first k h.began own y)) y (m.named k (is_some holder) own)
  changed_kept hs k due i own before None s h y opened may free sits = law.first_is k due h.began before own y may sits.is_sound
  changed_kept hs k due i own before (Some t) s h y opened may free sits =
      let same = not-false (eqb t s) free in
      let mine = part_some (get_or hs s None) i sits.work (sits.parts s ∙ ap (λ b. cond b (Some sits.work) None) same) in
      let one : sits.work.began ≡ h.began = mine.2 h opened in
      subst (λ g. Kept m sound k due (m.due k true before own) (Some g) before (m.later k own y) y (m.named k true own)) one
      (law.later_is k due sits.work.began before own y (ap (allowed m.quiet k.stage) one ∙ may) sits.is_sound)

  module _ (s : ℕ) (c : Change) (t : State L O) (v : Valid m sound f t) where
    refusals_same : table s c (leb 16 s) (not (is_some (hand_at t s))) (leb (length (map (committed_of m) t.cells)) c.line) (held (meaning m t) s c.line)
        (leb 4 (length (changes_of_hand (hand_at t s)))) (line_fault (make f (seen f (meaning m t) s) c))
        ≡ table s c (leb 16 s) (not (is_some (hand_at t s))) (leb (length t.cells) c.line) (held_at s (slice_get t.cells c.line))
        (leb 4 (length (changes_of_hand (hand_at t s)))) (line_fault (tried m f c (slice_get t.cells c.line)))
    refusals_same =
        rw (length-map t.cells (committed_of m))
        (
        same_table s c (leb 16 s) (not (is_some (hand_at t s))) (leb (length t.cells) c.line) (held_at s (slice_get t.cells c.line)) (held (meaning m t) s c.line)
        (leb 4 (length (changes_of_hand (hand_at t s)))) (line_fault (tried m f c (slice_get t.cells c.line))) (line_fault (make f (seen f (meaning m t) s) c))
        (λ seat past.
        let x = nth_there t.cells c.line (leb-false (length t.cells) c.line past) in
        held_is m sound f t v s (seat_within t.seats s v.sixteen seat) c.line x.0 x.1 ∙ ap (held_at s) (sym x.1))
        (λ seat past free.
        let x = nth_there t.cells c.line (leb-false (length t.cells) c.line past) in
        let free_x = ap (held_at s) (sym x.1) ∙ free in
        let live = seen_live x.0.own x.0.before x.0.holder s free_x in
        let there : slice_get (map (seen_of m sound f s) t.cells) c.line ≡ Some (m.live x.0.own) =
        slice_get-map (seen_of m sound f s) t.cells c.line ∙ ap (option_map (seen_of m sound f s)) x.1 ∙ ap (λ z. Some z) live in
        ap (λ ls. line_fault (make f ls c)) (sees m sound f t v s)
        ∙ made_fault f (map (seen_of m sound f s) t.cells) c (m.live x.0.own) there (change f (m.live x.0.own) c) refl
        ∙ ap (λ o. line_fault (tried m f c o)) (sym x.1))
        )

    -- an accepted change of the cell x, by the seat with the hand h, to the line y
    module _ (h : Hand) (seated : leb 16 s ≡ false) (opened : hand_at t s ≡ Some h) (x : Cell L O) (there : slice_get t.cells c.line ≡ Some x) (free : elsewhere x.holder s ≡ false)
        (y : L) (takes : change f (m.live x.own) c ≡ Ok y) where
      abbrev more : Hand
      more = record { began = h.began; changes = h.changes ++ c ∷ [] }

      abbrev rule : Cell L O → Cell L O
      rule = changed_cell m t.clock s h.began y

      within : s < length t.seats
      within = seat_within t.seats s v.sixteen seated

      may : allowed m.quiet t.clock.stage h.began ≡ true
      may = ap (λ o. began_in m.quiet t.clock.stage (option_map (λ w. w.began) o)) (sym opened) ∙ v.began s

      kept : Kept m sound t.clock (leb t.given c.line) (due_of m t.clock x) (Some h.began) (rule x).before (rule x).own y (named_of m t.clock x)
      kept = changed_kept t.seats t.clock (leb t.given c.line) c.line x.own x.before x.holder s h y opened may free (v.sits c.line x there)

      -- the cell is the one at that place
      this : (z : Cell L O) → slice_get t.cells c.line ≡ Some z → x ≡ z
      this z e = let p : Some x ≡ Some z = sym there ∙ e in cc

      committed_same : committed_of m (rule x) ≡ committed_of m x
      committed_same = elim x.holder as (λ o. cond (is_some o) x.before (m.live x.own) ≡ committed_line m (is_some o) x.before x.own) [ None ↦ refl | Some q ↦ refl ]

      meaning_changed : with_seat s (Some more) (meaning m t) ≡ meaning m (with_hand s (Some more) (with_cells (alter rule t.cells c.line) t))
      meaning_changed =
          let lines = map-alter (committed_of m) rule t.cells c.line (λ z e. subst (λ w. committed_of m (rule w) ≡ committed_of m w) (this z e) committed_same) in
          let named = map-alter (named_of m t.clock) rule t.cells c.line (λ z e. subst (λ w. named_of m t.clock (rule w) ≡ named_of m t.clock w) (this z e) kept.named_is) in
          let due = drop-map-alter (due_of m t.clock) rule t.given t.cells c.line
          (λ z e d. subst (λ w. due_of m t.clock (rule w) ≡ due_of m t.clock w) (this z e) (kept.due_is (le-leb t.given c.line d))) in
          rw (lines, named, due)

      names_it : names more.changes c.line ≡ true
      names_it = names_more h.changes c c.line ∙ ap (λ b. names h.changes c.line || b) (eq-eqb c.line c.line refl) ∙ or_right (names h.changes c.line) true refl

      abbrev work_now : Hand
      work_now = record { began = h.began; changes = only c.line more.changes }

      at : (r : ℕ) → get_or (set t.seats s (Some more)) r None ≡ cond (eqb s r) (Some more) (get_or t.seats r None)
      at r = get_d_set t.seats s r (Some more) None within

      part_it : part c.line (Some more) ≡ Some work_now
      part_it = rw names_it

      -- the changes of the line so far, and this one
      made_it : ran f (Ok (rule x).before) (only c.line more.changes) ≡ Ok (m.live (rule x).own)
      made_it =
          let i = c.line in
          let old = (rule x).before in
          let last : only i (c ∷ []) ≡ c ∷ [] = ap (λ b. cond b (c ∷ []) []) (eq-eqb i i refl) in
          let so_far : ran f (Ok old) (only i h.changes) ≡ Ok (m.live x.own) =
          ap (λ o. ran f (Ok old) (only i (changes_of_hand o))) (sym opened)
          ∙ sees_cell m sound f t.seats t.clock (leb t.given i) i x.own x.before x.holder (v.sits i x there) s
          ∙ ap (λ z. Ok z) (seen_live x.own x.before x.holder s free) in
          ap (ran f (Ok old)) (only_more h.changes c i ∙ ap (λ d. only i h.changes ++ d) last) ∙ ran_more f (Ok old) (only i h.changes) c
          ∙ ap (λ r. ran f r (c ∷ [])) so_far ∙ takes ∙ ap (λ z. Ok z) (sym kept.live_is)

      sits_changed : Sits m sound f (set t.seats s (Some more)) t.clock (leb t.given c.line) c.line (rule x).own (Some s) (rule x).before
      sits_changed = record {
        work = work_now;
        parts = λ r. elim (cases_Bool (eqb s r)) [
          | inl same ↦ ap (part c.line) (at r ∙ ap (λ b. cond b (Some more) (get_or t.seats r None)) same) ∙ part_it ∙ ap (λ b. cond b (Some work_now) None) (sym same)
          | inr other ↦
              ap (part c.line) (at r ∙ ap (λ b. cond b (Some more) (get_or t.seats r None)) other)
              ∙ alone m sound f t.seats t.clock (leb t.given c.line) c.line x.own x.before x.holder s r free other (v.sits c.line x there)
              ∙ ap (λ b. cond b (Some work_now) None) (sym other)
        ];
        made = made_it;
        is_sound = kept.sound_is;
      }

      named_inside : (j : ℕ) → names more.changes j ≡ true → j < length t.cells
      named_inside j e = elim (cases_Bool (names h.changes j)) [
        | inl old ↦ v.inside s j (ap (λ o. names (changes_of_hand o) j) opened ∙ old)
        | inr new ↦
            let it : eqb c.line j ≡ true = ap (λ b. b || eqb c.line j) (sym new) ∙ sym (names_more h.changes c j) ∙ e in
            subst (λ i. i < length t.cells) (eqb-true c.line j it) (slice_get_within t.cells c.line x there)
      ]

      -- another line's part of the seat is as it was
      part_other : (j : ℕ) → eqb c.line j ≡ false → part j (Some more) ≡ part j (hand_at t s)
      part_other j other =
          let named : names more.changes j ≡ names h.changes j = names_more h.changes c j ∙ ap (λ b. names h.changes j || b) other ∙ or_false (names h.changes j) in
          let last : only j (c ∷ []) ≡ [] = ap (λ b. cond b (c ∷ []) []) other in
          let rest : only j more.changes ≡ only j h.changes = only_more h.changes c j ∙ ap (λ d. only j h.changes ++ d) last ∙ append-nil (only j h.changes) in
          rw (named, rest, opened)

      sits-all : (j : ℕ) (z : Cell L O) → slice_get (alter rule t.cells c.line) j ≡ Some z → (b : Bool) → eqb c.line j ≡ b
          → Sits m sound f (set t.seats s (Some more)) t.clock (leb t.given j) j z.own z.holder z.before
      sits-all j z e true same =
          let one = eqb-true c.line j same in
          let is : Some (rule x) ≡ Some z = ap (option_map rule) (sym there ∙ ap (slice_get t.cells) one) ∙ ap (λ b. cond b (option_map rule (slice_get t.cells j)) (slice_get t.cells j)) (sym same)
          ∙ sym (nth_alter rule t.cells c.line j) ∙ e in
          let is_z : rule x ≡ z = cc in
          subst (λ w. Sits m sound f (set t.seats s (Some more)) t.clock (leb t.given j) j w.own w.holder w.before) is_z
          (subst (λ i. Sits m sound f (set t.seats s (Some more)) t.clock (leb t.given i) i (rule x).own (Some s) (rule x).before) one sits_changed)
      sits-all j z e false other =
          let is : slice_get t.cells j ≡ Some z = ap (λ b. cond b (option_map rule (slice_get t.cells j)) (slice_get t.cells j)) (sym other) ∙ sym (nth_alter rule t.cells c.line j) ∙ e in
          sits_frame m sound f t.seats (set t.seats s (Some more)) t.clock (leb t.given j) j z.own z.holder z.before
          (part_frame t.seats s within (Some more) j (part_other j other)) (v.sits j z is)

      valid_changed : Valid m sound f (with_hand s (Some more) (with_cells (alter rule t.cells c.line) t))
      valid_changed = record {
        sixteen = length-set t.seats s (Some more) ∙ v.sixteen;
        counts = rw (length-alter rule t.cells c.line) v.counts;
        began = all-seats t.seats s within (Some more) (λ o. began_in m.quiet t.clock.stage (option_map (λ w. w.began) o) ≡ true) may v.began;
        inside = λ r j e.
            rw (length-alter rule t.cells c.line)
            (all-seats t.seats s within (Some more) (λ o. (j : ℕ) → names (changes_of_hand o) j ≡ true → j < length t.cells) named_inside v.inside r j e);
        sits = λ j z e. sits-all j z e (eqb c.line j) refl;
      }

      goes_on : Valid m sound f (changed_state m f s c t) × (with_seat s (added c (hand_at t s)) (meaning m t) ≡ meaning m (changed_state m f s c t))
      goes_on = rw (opened, there, takes) (valid_changed, meaning_changed)

    pub changes_shown : (r : Result (Unit {0}) KeeperFault) (u : State L O) → changed m f s c t ≡ (r, u) → Shows (meaning m) (Valid m sound f) r u (changes f s c (meaning m t))
    changes_shown r u e =
        refines (meaning m) (Valid m sound f)
        (table s c (leb 16 s) (not (is_some (hand_at t s))) (leb (length t.cells) c.line) (held_at s (slice_get t.cells c.line))
        (leb 4 (length (changes_of_hand (hand_at t s)))) (line_fault (tried m f c (slice_get t.cells c.line))))
        (table s c (leb 16 s) (not (is_some (hand_at t s))) (leb (length (map (committed_of m) t.cells)) c.line) (held (meaning m t) s c.line)
        (leb 4 (length (changes_of_hand (hand_at t s)))) (line_fault (make f (seen f (meaning m t) s) c)))
        tt (changed_state m f s c t) t (with_seat s (added c (hand_at t s)) (meaning m t)) refusals_same v
        (λ none.
        let p = all_passed s c (leb 16 s) (not (is_some (hand_at t s))) (leb (length t.cells) c.line) (held_at s (slice_get t.cells c.line))
        (leb 4 (length (changes_of_hand (hand_at t s)))) (tried m f c (slice_get t.cells c.line)) none in
        let h = open_hand (hand_at t s) p.shut_is in
        let x = nth_there t.cells c.line (leb-false (length t.cells) c.line p.past_is) in
        let free : elsewhere x.0.holder s ≡ false = ap (held_at s) (sym x.1) ∙ p.other_is in
        let takes : change f (m.live x.0.own) c ≡ Ok p.line = ap (tried m f c) (sym x.1) ∙ p.takes in
        goes_on h.0 p.seat_is h.1 x.0 x.1 free p.line takes)
        r u e
