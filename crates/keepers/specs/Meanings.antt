-- What a keeper means.
--
--   Hand         an open seat: the stage in which its command began, and its changes so far
--   Meaning L    the whole of it: see its fields
--   at_seat m s  what seat s holds, if it is open
--   changes_in m s   the changes of seat s so far; none where it is not open
--   seen f m s   the lines as seat s sees them: the committed ones with its own changes made
--   names cs i   whether one of the changes cs names line i
--   held m s i   whether a seat other than s has changed line i
--   size k ls r l   how many lines a new keeper has: the shortest of the list's lawful front, the room r and the limit l
--   opened ls    the meaning of a new keeper over the lines ls
use Rattle.std.specs.Prelude.{ℕ, min, Bool, false, ◌||◌, List, [], ◌∷◌, map, replicate, Some, None, Option, ◌==◌, slice_index_or, slice_set}
use Rattle.lines.specs.declared.changes.Change.{Change}
use Rattle.lines.specs.Changing.{Outcome}
use Rattle.lines.specs.Numbered.{after, front}
use Rattle.keepers.specs.declared.given.Given.{Given}
use Rattle.keepers.specs.declared.stages.Stage.{Stage}
use Rattle.keepers.specs.declared.stages.Stage.TheVariants.{Rest}

pub record Hand : Type 0 where
  pub began : Stage
  pub changes : List Change

pub record Meaning (L : Type 0) : Type 0 where
  -- the lines with committed changes only
  pub lines : List L
  -- the sixteen seats
  pub seats : List (Option Hand)
  pub stage : Stage
  -- whether the number of points passed is odd
  pub odd : Bool
  -- of each line, whether a commit named it since the last point
  pub named : List Bool
  -- how many lines were given out since the point; 0 in Rest and Called
  pub given : ℕ
  -- the point lines that are still to be given out, and which of them are named; none in Rest and Called
  pub due : List (Given L)

abbrev pub at_seat : {L : Type 0} → Meaning L → ℕ → Option Hand
at_seat m s = slice_index_or m.seats s None

abbrev pub changes_of_hand : Option Hand → List Change
changes_of_hand None = []
changes_of_hand (Some h) = h.changes

abbrev pub changes_in : {L : Type 0} → Meaning L → ℕ → List Change
changes_in m s = changes_of_hand (at_seat m s)

abbrev pub seen : {L : Type 0} → (L → ℕ → ℕ → Outcome L) → Meaning L → ℕ → List L
seen f m s = after f m.lines (changes_in m s)

abbrev pub names : List Change → ℕ → Bool
names [] i = false
names (c ∷ cs) i = c.line == i || names cs i

abbrev pub any : {A : Type 0} → (A → Bool) → List A → Bool
any p [] = false
any p (x ∷ xs) = p x || any p xs

abbrev pub held : {L : Type 0} → Meaning L → ℕ → ℕ → Bool
held m s i = any (λ h. names (changes_of_hand h) i) (slice_set m.seats s None)

abbrev pub size : {L : Type 0} → (L → Bool) → List L → ℕ → ℕ → ℕ
size keeps opening room limit = min (front keeps opening) (min room limit)

abbrev pub opened : {L : Type 0} → List L → Meaning L
opened ls = record {
  lines = ls;
  seats = replicate 16 None;
  stage = Rest;
  odd = false;
  named = map (λ _. false) ls;
  given = 0;
  due = [];
}
