-- Each call of a keeper, as a definition on its meaning: the answer, and the meaning after it.
--
--   first t r     the fault of the first row of the table t whose test holds; past the last row, r
--   judged r a n o   refused with r, and all stands as before (o); or where r is none, answered with a, and n stands
--   begin_refusals and the like   the tables, in the order in which a caller is refused
--   begins, changes, commits, abandons, calls, turns, gives   the calls
--   looks         the one question that may be refused
--   waiting m     what a turn waits for, if it does
use Rattle.std.specs.Prelude.{◌≡◌, ℕ, suc, ◌+◌, Bool, true, false, cond, not, ◌&&◌, List, [], ◌∷◌, ◌++◌, map, length, is_some, Some, None, Ok, Err, Option, Result, ◌==◌, nat_le, slice_set}
use Rattle.std.specs.Option.{option_map}
use Rattle.std.specs.List.{slice_get}
use Rattle.lines.specs.declared.changes.Change.{Change}
use Rattle.lines.specs.declared.faults.LineFault.{LineFault}
use Rattle.lines.specs.declared.faults.LineFault.TheVariants.{NoSuchLine}
use Rattle.lines.specs.Changing.{Outcome}
use Rattle.lines.specs.Numbered.{make}
use Rattle.keepers.specs.declared.faults.KeeperFault.{KeeperFault}
use Rattle.keepers.specs.declared.faults.KeeperFault.TheVariants.{NoSuchSeat, SeatOpen, SeatNotOpen, Held, FifthChange, Quiet, NotAtRest, WaitsForSeat, WaitsForLines, AtRest, Line}
use Rattle.keepers.specs.declared.given.Given.{Given}
use Rattle.keepers.specs.declared.stages.Stage.{Stage}
use Rattle.keepers.specs.declared.stages.Stage.TheVariants.{Rest, Called, Taking, Closing}
use Rattle.keepers.specs.Meanings.{Hand, Meaning, at_seat, changes_in, seen, held}
use Rattle.keepers.specs.Stages.{same, onward, awaited}

abbrev pub first : List (Bool × KeeperFault) → Option KeeperFault → Option KeeperFault
first [] r = r
first (row ∷ rows) r = cond row.0 (Some row.1) (first rows r)

abbrev pub judged : {A S : Type 0} → Option KeeperFault → A → S → S → Result A KeeperFault × S
judged (Some r) a new old = (Err r, old)
judged None a new old = (Ok a, new)

-- The meaning with one seat altered.
abbrev pub with_seat : {L : Type 0} → ℕ → Option Hand → Meaning L → Meaning L
with_seat s h m = record {
  lines = m.lines;
  seats = slice_set m.seats s h;
  stage = m.stage;
  odd = m.odd;
  named = m.named;
  given = m.given;
  due = m.due;
}

-- where nothing was given out, nothing moved
abbrev pub Unmoved : {A S : Type 0} → Option A → S → S → Type 0
Unmoved None before after = after ≡ before
Unmoved (Some a) before after = Unit {0}

-- What begin is refused for: 1, 20, 25.
abbrev pub begin_refusals : {L : Type 0} → Bool → ℕ → Meaning L → List (Bool × KeeperFault)
begin_refusals quiet s m =
    (nat_le 16 s, NoSuchSeat s)
    ∷ (is_some (at_seat m s), SeatOpen s)
    ∷ (quiet && same m.stage Called, Quiet s)
    ∷ []

-- Begin opens a seat, with no change yet.
abbrev pub begins : {L : Type 0} → Bool → ℕ → Meaning L → Result (Unit {0}) KeeperFault × Meaning L
begins quiet s m = judged (first (begin_refusals quiet s m) None) tt (with_seat s (Some (record { began = m.stage; changes = [] })) m) m

-- What change is refused for before its line is asked: 1, 21, 2, 22, 23.
abbrev pub change_refusals : {L : Type 0} → ℕ → Change → Meaning L → List (Bool × KeeperFault)
change_refusals s c m =
    (nat_le 16 s, NoSuchSeat s)
    ∷ (not (is_some (at_seat m s)), SeatNotOpen s)
    ∷ (nat_le (length m.lines) c.line, Line (NoSuchLine c.line))
    ∷ (held m s c.line, Held c.line)
    ∷ (nat_le 4 (length (changes_in m s)), FifthChange s)
    ∷ []

-- And by the line itself, whatever its refusal.
abbrev pub line_fault : {S : Type 0} → Result S LineFault → Option KeeperFault
line_fault (Ok new) = None
line_fault (Err fault) = Some (Line fault)

-- a hand with one change more
abbrev pub added : Change → Option Hand → Option Hand
added c None = None
added c (Some h) = Some (record { began = h.began; changes = h.changes ++ c ∷ [] })

-- Change adds one to the seat's changes, if the line as the seat sees it takes it.
abbrev pub changes : {L : Type 0} → (L → ℕ → ℕ → Outcome L) → ℕ → Change → Meaning L → Result (Unit {0}) KeeperFault × Meaning L
changes f s c m = judged (first (change_refusals s c m) (line_fault (make f (seen f m s) c))) tt (with_seat s (added c (at_seat m s)) m) m

-- What commit and abandon are refused for: 1, 21.
abbrev pub end_refusals : {L : Type 0} → ℕ → Meaning L → List (Bool × KeeperFault)
end_refusals s m =
    (nat_le 16 s, NoSuchSeat s)
    ∷ (not (is_some (at_seat m s)), SeatNotOpen s)
    ∷ []

-- the lines that the changes name, named
abbrev pub name : List Change → List Bool → List Bool
name [] bs = bs
name (c ∷ cs) bs = name cs (slice_set bs c.line true)

-- Commit makes the seat's changes on the committed lines, names their lines and shuts the seat.
abbrev pub committed : {L : Type 0} → (L → ℕ → ℕ → Outcome L) → ℕ → Meaning L → Meaning L
committed f s m = record {
  lines = seen f m s;
  seats = slice_set m.seats s None;
  stage = m.stage;
  odd = m.odd;
  named = name (changes_in m s) m.named;
  given = m.given;
  due = m.due;
}

abbrev pub commits : {L : Type 0} → (L → ℕ → ℕ → Outcome L) → ℕ → Meaning L → Result (Unit {0}) KeeperFault × Meaning L
commits f s m = judged (first (end_refusals s m) None) tt (committed f s m) m

-- Abandon drops them.
abbrev pub abandons : {L : Type 0} → ℕ → Meaning L → Result (Unit {0}) KeeperFault × Meaning L
abandons s m = judged (first (end_refusals s m) None) tt (with_seat s None m) m

-- the line of number i, if it is there
abbrev pub found : {L : Type 0} → ℕ → Option L → Result L KeeperFault
found i None = Err (Line (NoSuchLine i))
found i (Some x) = Ok x

-- Look answers a line with committed changes only.
abbrev pub looks : {L : Type 0} → ℕ → Meaning L → Result L KeeperFault
looks i m = found i (slice_get m.lines i)

-- the point lines, each with whether it is named
abbrev pub point_lines : {L : Type 0} → List L → List Bool → List (Given L)
point_lines [] bs = []
point_lines (x ∷ xs) [] = []
point_lines (x ∷ xs) (b ∷ bs) = record { line = x; named = b } ∷ point_lines xs bs

-- The meaning one stage on. On the turn from Called, the point, the committed lines become the point lines, and the named set moves there.
abbrev pub turned : {L : Type 0} → Meaning L → Meaning L
turned m = record {
  lines = m.lines;
  seats = m.seats;
  stage = onward m.stage;
  odd = cond (same m.stage Called) (not m.odd) m.odd;
  named = cond (same m.stage Called) (map (λ _. false) m.named) m.named;
  given = cond (same m.stage Closing) 0 m.given;
  due = cond (same m.stage Called) (point_lines m.lines m.named) m.due;
}

-- What a call is refused for: 27.
abbrev pub call_refusals : {L : Type 0} → Meaning L → List (Bool × KeeperFault)
call_refusals m = (not (same m.stage Rest), NotAtRest m.stage) ∷ []

abbrev pub calls : {L : Type 0} → Meaning L → Result (Unit {0}) KeeperFault × Meaning L
calls m = judged (first (call_refusals m) None) tt (turned m) m

-- the place of the first that p holds of
abbrev pub lowest : {A : Type 0} → (A → Bool) → List A → Option ℕ
lowest p [] = None
lowest p (x ∷ xs) = cond (p x) (Some 0) (option_map (λ i. suc i) (lowest p xs))

-- whether a turn in stage g waits for a seat
abbrev pub awaits : Stage → Option Hand → Bool
awaits g None = false
awaits g (Some h) = awaited g h.began

-- In Taking a turn waits for the lines that are due, elsewhere for the lowest seat of those that it waits for.
abbrev pub waiting : {L : Type 0} → Meaning L → Option KeeperFault
waiting m =
    cond (same m.stage Taking) (cond (length m.due == 0) None (Some (WaitsForLines (length m.due))))
    (option_map (λ s. WaitsForSeat s) (lowest (awaits m.stage) m.seats))

-- What a turn is refused for before it waits: 29.
abbrev pub turn_refusals : {L : Type 0} → Meaning L → List (Bool × KeeperFault)
turn_refusals m = (same m.stage Rest, AtRest) ∷ []

abbrev pub turns : {L : Type 0} → Meaning L → Result (Unit {0}) KeeperFault × Meaning L
turns m = judged (first (turn_refusals m) (waiting m)) tt (turned m) m

-- giving out the first of what is due
abbrev pub gave : {L : Type 0} → List (Given L) → Meaning L → Option (Given L) × Meaning L
gave [] m = (None, m)
gave (d ∷ ds) m = (
  Some d,
  record {
    lines = m.lines;
    seats = m.seats;
    stage = m.stage;
    odd = m.odd;
    named = m.named;
    given = m.given + 1;
    due = ds;
  },
)

-- Giving out answers the next point line; outside Taking or past the last, none.
abbrev pub gives : {L : Type 0} → Meaning L → Option (Given L) × Meaning L
gives m = gave (cond (same m.stage Taking) m.due []) m
