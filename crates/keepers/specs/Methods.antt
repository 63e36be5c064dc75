-- A method of keeping: what it does to one cell, and what one cell means.
--
--   Method L O      the rules of a method whose cells hold O of their own for each line L: see its fields
--   began_in q g h  whether a cell whose holder began in h, if it has one, can be found in stage g
--   Kept            what a rule of one cell leaves as it was
--   Lawful M sound  what every method owes: see its fields
--
-- Every cell besides has a holder, the seat that changed its line and neither committed nor abandoned, and its before line: the line as it was when the holder first changed it.
use Rattle.std.specs.Prelude.{◌≡◌, ℕ, ◌≤◌, Bool, true, false, cond, is_some, Some, None, Option}
use Rattle.keepers.specs.declared.clocks.Clock.{Clock}
use Rattle.keepers.specs.declared.given.Given.{Given}
use Rattle.keepers.specs.declared.stages.Stage.{Stage}
use Rattle.keepers.specs.declared.stages.Stage.TheVariants.{Called, Pointed, Taking}
use Rattle.keepers.specs.Clocks.{start, ticked}
use Rattle.keepers.specs.Stages.{same, onward, allowed}

pub record Method (L O : Type 0) : Type 0 where
  -- the most lines that it keeps
  pub limit : ℕ
  -- whether it refuses begin in Called
  pub quiet : Bool
  -- whether the point writes cells
  pub sweeps : Bool
  -- a cell at opening, from its line
  pub fresh : L → O
  -- a command's first change of the line, from the stage in which it began and the new line
  pub first : Clock → Stage → O → L → O
  -- its further changes of that line
  pub later : Clock → O → L → O
  pub commit : Clock → Stage → O → O
  -- abandon, from the before line
  pub abandon : Clock → Stage → O → L → O
  -- what giving out answers, and the cell after it
  pub gives : Clock → O → Given L
  pub given : Clock → O → O
  -- the cell at the point
  pub pointed : O → O
  -- what a cell means: the line with every change made
  pub live : O → L
  -- whether a commit named the line since the last point; from whether it is held
  pub named : Clock → Bool → O → Bool
  -- what is due of the cell while it is still to be given out; from whether it is held, and its before line
  pub due : Clock → Bool → L → O → Given L

abbrev pub began_in : Bool → Stage → Option Stage → Bool
began_in quiet g None = true
began_in quiet g (Some b) = allowed quiet g b

-- the line with committed changes only
abbrev pub committed_line : {L O : Type 0} → Method L O → Bool → L → O → L
committed_line m held before o = cond held before (m.live o)

-- What a cell is after one of its rules: its line, whether it is named, what is due of it as before, and sound again.
pub record Kept {L O : Type 0} (m : Method L O) (sound : Clock → Bool → Option Stage → L → O → Type 0)
    (k : Clock) (due : Bool) (old_due : Given L) (h : Option Stage) (before : L) (o : O) (line : L) (is_named : Bool) : Type 0 where
  pub live_is : m.live o ≡ line
  pub named_is : m.named k (is_some h) o ≡ is_named
  pub due_is : due ≡ true → m.due k (is_some h) before o ≡ old_due
  pub sound_is : sound k due h before o

-- sound k due h before o: o can stand in a cell at clock k, whose line is still due or not, whose holder began in h, if it has one, and whose before line is `before`.
pub record Lawful {L O : Type 0} (m : Method L O) (sound : Clock → Bool → Option Stage → L → O → Type 0) : Type 0 where
  pub few : m.limit ≤ 1024
  pub fresh_is : (x : L) → Kept m sound start false (m.due start false x (m.fresh x)) None x (m.fresh x) x false
  pub first_is : (k : Clock) (due : Bool) (b : Stage) (before : L) (o : O) (x : L) → allowed m.quiet k.stage b ≡ true → sound k due None before o
      → Kept m sound k due (m.due k false before o) (Some b) (m.live o) (m.first k b o x) x (m.named k false o)
  pub later_is : (k : Clock) (due : Bool) (b : Stage) (before : L) (o : O) (x : L) → allowed m.quiet k.stage b ≡ true → sound k due (Some b) before o
      → Kept m sound k due (m.due k true before o) (Some b) before (m.later k o x) x (m.named k true o)
  pub commit_is : (k : Clock) (due : Bool) (b : Stage) (before : L) (o : O) → allowed m.quiet k.stage b ≡ true → sound k due (Some b) before o
      → Kept m sound k due (m.due k true before o) None before (m.commit k b o) (m.live o) true
  pub abandon_is : (k : Clock) (due : Bool) (b : Stage) (before : L) (o : O) → allowed m.quiet k.stage b ≡ true → sound k due (Some b) before o
      → Kept m sound k due (m.due k true before o) None before (m.abandon k b o before) before (m.named k true o)
  -- giving out answers what is due, and leaves the line and whether it is named since the point
  pub gives_is : (k : Clock) (h : Option Stage) (before : L) (o : O) → k.stage ≡ Taking → sound k true h before o → m.gives k o ≡ m.due k (is_some h) before o
  pub given_is : (k : Clock) (h : Option Stage) (before : L) (o : O) → k.stage ≡ Taking → sound k true h before o
      → Kept m sound k false (m.gives k o) h before (m.given k o) (m.live o) (m.named k (is_some h) o)
  -- a turn other than the point alters no cell, and nothing that it means
  pub turns_is : (k : Clock) (due : Bool) (h : Option Stage) (before : L) (o : O) → same k.stage Called ≡ false → due ≡ same k.stage Pointed
      → began_in m.quiet k.stage h ≡ true → began_in m.quiet (onward k.stage) h ≡ true → sound k due h before o
      → Kept m sound (ticked k) due (m.due k (is_some h) before o) h before o (m.live o) (m.named k (is_some h) o)
  -- at the point the committed line becomes due, with whether it was named, and is named no more
  pub points_is : (k : Clock) (h : Option Stage) (before : L) (o : O) → k.stage ≡ Called
      → began_in m.quiet Called h ≡ true → began_in m.quiet Pointed h ≡ true → sound k false h before o
      → Kept m sound (ticked k) true (record { line = committed_line m (is_some h) before o; named = m.named k (is_some h) o }) h before (m.pointed o) (m.live o) false
  -- where the point writes no cell, its rule alters none
  pub still : m.sweeps ≡ false → (o : O) → m.pointed o ≡ o
