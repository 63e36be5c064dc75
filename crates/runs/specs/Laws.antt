-- Runs of a book, and what of them is proved so far.
--
--   Run g b es c    calls that led from the book b to the book c gave the transcript es, the newest first
--   Follows es b    the book b is where the transcript es leads: see its fields
--   LogLaw L        every run from a new book leads where its transcript says
use Rattle.std.specs.Prelude.{◌≡◌, ℕ, List, [], ◌∷◌}
use Rattle.std.specs.Option.{option_map}
use Rattle.logs.specs.Logs.{Log}
use Rattle.keepers.specs.Meanings.{at_seat}
use Rattle.book.specs.Books.{Setting, Book, Call, new, step}
use Rattle.runs.specs.Events.{Event, accepted, stage, points, hand}
use Rattle.runs.specs.Histories.{history}

pub data Run {L : Type 0} (g : Setting L) (from : Book L) : List (Event L) → Book L → Type 0 where
  start : Run g from [] from
  then : {es : List (Event L)} {b : Book L} → Run g from es b → (c : Call) → Run g from (record { asked = c; answer = (step g c b).0 } ∷ es) (step g c b).1

pub record Follows {L : Type 0} (es : List (Event L)) (b : Book L) : Type 0 where
  -- the log holds the history
  pub log : history es ≡ b.log.entries
  -- the stage, the points passed, and each seat's command in hand
  pub stage_is : stage es ≡ b.keeper.stage
  pub points_are : points es ≡ b.points
  pub hands : (s : ℕ) → hand s es ≡ option_map (λ h. h.changes) (at_seat b.keeper s)

abbrev pub LogLaw : Type 0 → Type 0
LogLaw L = (g : Setting L) (ls : List L) (log : Log) (es : List (Event L)) (b : Book L) → Run g (new ls log) es b → Follows (accepted es) b
