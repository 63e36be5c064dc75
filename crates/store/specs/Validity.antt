-- What a store relies on, and keeps.
--
--   ran f r cs      what a line's answer r becomes by the changes cs, each made on the line before it; the first refusal stays
--   only j cs       those of the changes cs that name line j
--   part j h        what of a seat's hand is about line j: its changes of that line; none where it has none
--   Free, Busy      what holds of a cell that nobody holds, and of one that seat t holds: see their fields
--   Sits            the one or the other
--   Counts g d n    how many lines are not due, d, in stage g, of n
--   Valid m sound f t   the state t is one that opening and calls lead to: see its fields
use Rattle.std.specs.Prelude.{◌≡◌, ℕ, ◌<◌, ◌≤◌, Bool, true, cond, List, [], ◌∷◌, length, Some, None, Ok, Err, Option, Result, ◌==◌, nat_le, slice_index_or}
use Rattle.std.specs.Option.{option_map}
use Rattle.std.specs.List.{slice_get}
use Rattle.lines.specs.declared.changes.Change.{Change}
use Rattle.lines.specs.declared.faults.LineFault.{LineFault}
use Rattle.lines.specs.Changing.{Outcome}
use Rattle.lines.specs.Numbered.{change}
use Rattle.keepers.specs.declared.clocks.Clock.{Clock}
use Rattle.keepers.specs.declared.stages.Stage.{Stage}
use Rattle.keepers.specs.declared.stages.Stage.TheVariants.{Rest, Called, Pointed, Taking, Closing}
use Rattle.keepers.specs.Meanings.{Hand, names, changes_of_hand}
use Rattle.keepers.specs.Methods.{Method, began_in}
use Rattle.store.specs.declared.cells.Cell.{Cell}
use Rattle.store.specs.States.{State}

abbrev pub ran : {L : Type 0} → (L → ℕ → ℕ → Outcome L) → Result L LineFault → List Change → Result L LineFault
ran f r [] = r
ran f (Err fault) (c ∷ cs) = Err fault
ran f (Ok x) (c ∷ cs) = ran f (change f x c) cs

abbrev pub only : ℕ → List Change → List Change
only j [] = []
only j (c ∷ cs) = cond (c.line == j) (c ∷ only j cs) (only j cs)

abbrev pub part : ℕ → Option Hand → Option Hand
part j None = None
part j (Some h) = cond (names h.changes j) (Some (record { began = h.began; changes = only j h.changes })) None

abbrev pub Counts : Stage → ℕ → ℕ → Type 0
Counts Rest d n = d ≡ n
Counts Called d n = d ≡ n
Counts Pointed d n = d ≡ 0
Counts Taking d n = d ≤ n
Counts Closing d n = d ≡ n

module _ {L O : Type 0} (m : Method L O) (sound : Clock → Bool → Option Stage → L → O → Type 0) (f : L → ℕ → ℕ → Outcome L) where
  pub record Free (hs : List (Option Hand)) (k : Clock) (due : Bool) (j : ℕ) (own : O) (before : L) : Type 0 where
    -- no seat has changed the line
    pub parts : (s : ℕ) → part j (slice_index_or hs s None) ≡ None
    pub is_sound : sound k due None before own

  pub record Busy (hs : List (Option Hand)) (k : Clock) (due : Bool) (j : ℕ) (own : O) (t : ℕ) (before : L) : Type 0 where
    -- what the holder did to the line
    pub work : Hand
    -- the holder has changed the line, and no other seat has
    pub parts : (s : ℕ) → part j (slice_index_or hs s None) ≡ cond (t == s) (Some work) None
    -- its changes of the line, made on the before line, give the line as it is
    pub made : ran f (Ok before) work.changes ≡ Ok (m.live own)
    pub is_sound : sound k due (Some work.began) before own

  abbrev pub Sits : List (Option Hand) → Clock → Bool → ℕ → O → Option ℕ → L → Type 0
  Sits hs k due j own None before = Free hs k due j own before
  Sits hs k due j own (Some t) before = Busy hs k due j own t before

  pub record Valid (t : State L O) : Type 0 where
    pub sixteen : length t.seats ≡ 16
    pub counts : Counts t.clock.stage t.given (length t.cells)
    -- no seat is open that began in a stage from which none can be
    pub began : (s : ℕ) → began_in m.quiet t.clock.stage (option_map (λ h. h.began) (slice_index_or t.seats s None)) ≡ true
    -- changes name lines that are there
    pub inside : (s j : ℕ) → names (changes_of_hand (slice_index_or t.seats s None)) j ≡ true → j < length t.cells
    pub sits : (j : ℕ) (x : Cell L O) → slice_get t.cells j ≡ Some x → Sits t.seats t.clock (nat_le t.given j) j x.own x.holder x.before
