-- What each call does to a store's state, cell by cell, through the rules m of its method and the changes f of its kind of line.
--
--   with_hand s h t    the state t with seat s shut or open as h
--   with_cells cs t    the state t with other cells
--   begun, changed, ended, looked, called, turned, given_out   the calls
--   waits t            what a turn waits for, if it does
use Rattle.std.specs.Prelude.{◌≡◌, ℕ, ◌+◌, ◌-◌, Bool, false, cond, not, List, [], ◌∷◌, map, length, replicate, is_some, Some, None, Ok, Err, Option, Result, ◌==◌, nat_le, slice_index_or, slice_set}
use Rattle.std.specs.Option.{option_map}
use Rattle.std.specs.List.{slice_get}
use Rattle.lines.specs.declared.changes.Change.{Change}
use Rattle.lines.specs.declared.faults.LineFault.{LineFault}
use Rattle.lines.specs.declared.faults.LineFault.TheVariants.{NoSuchLine}
use Rattle.lines.specs.Changing.{Outcome}
use Rattle.lines.specs.Numbered.{change}
use Rattle.keepers.specs.declared.clocks.Clock.{Clock}
use Rattle.keepers.specs.declared.faults.KeeperFault.{KeeperFault}
use Rattle.keepers.specs.declared.faults.KeeperFault.TheVariants.{NoSuchSeat, SeatNotOpen, Held, FifthChange, WaitsForSeat, WaitsForLines, Line}
use Rattle.keepers.specs.declared.given.Given.{Given}
use Rattle.keepers.specs.declared.seats.Open.{Open}
use Rattle.keepers.specs.declared.stages.Stage.TheVariants.{Called, Taking}
use Rattle.keepers.specs.Calls.{first, judged, begin_refusals, end_refusals, call_refusals, turn_refusals, line_fault, added, found, lowest, awaits}
use Rattle.keepers.specs.Clocks.{start, ticked}
use Rattle.keepers.specs.Hands.{hand_of}
use Rattle.keepers.specs.Meanings.{Hand, changes_of_hand}
use Rattle.keepers.specs.Methods.{Method}
use Rattle.keepers.specs.Stages.{same}
use Rattle.store.specs.declared.cells.Cell.{Cell}
use Rattle.store.specs.declared.cells.End.{End}
use Rattle.store.specs.CellRules.{elsewhere, fresh_cell, changed_cell, ended_cell, given_cell, pointed_cell, committed_of, alter, walk}
use Rattle.store.specs.States.{State, meaning}

-- a new store over the lines ls: no line is due
abbrev pub new_state : {L O : Type 0} → Method L O → List L → State L O
new_state m ls = record { cells = map (fresh_cell m) ls; seats = replicate 16 None; clock = start; given = length ls }

abbrev pub hand_at : {L O : Type 0} → State L O → ℕ → Option Hand
hand_at t s = slice_index_or t.seats s None

abbrev pub with_hand : {L O : Type 0} → ℕ → Option Hand → State L O → State L O
with_hand s h t = record { cells = t.cells; seats = slice_set t.seats s h; clock = t.clock; given = t.given }

abbrev pub with_cells : {L O : Type 0} → List (Cell L O) → State L O → State L O
with_cells cells t = record { cells = cells; seats = t.seats; clock = t.clock; given = t.given }

-- what change, commit and abandon find in seat s first: an open one, or the refusal that stands, whatever else they would be refused for
abbrev pub Seated : {L O : Type 0} → Result Open KeeperFault → ℕ → State L O → Type 0
Seated (Ok open_seat) s t = (nat_le 16 s ≡ false) × (hand_at t s ≡ hand_of (Some open_seat))
Seated (Err fault) s t = (r : Option KeeperFault) → first ((nat_le 16 s, NoSuchSeat s) ∷ (not (is_some (hand_at t s)), SeatNotOpen s) ∷ []) r ≡ Some fault

-- the cell of line i, if it is there
abbrev pub cell_of : {L O : Type 0} → ℕ → Option (Cell L O) → Result (Cell L O) LineFault
cell_of i None = Err (NoSuchLine i)
cell_of i (Some x) = Ok x

abbrev pub begun : {L O : Type 0} → Method L O → ℕ → State L O → Result (Unit {0}) KeeperFault × State L O
begun m s t = judged (first (begin_refusals m.quiet s (meaning m t)) None) tt (with_hand s (Some (record { began = t.clock.stage; changes = [] })) t) t

-- whether a cell, if it is there, is held by a seat other than s
abbrev pub held_at : {L O : Type 0} → ℕ → Option (Cell L O) → Bool
held_at s None = false
held_at s (Some x) = elsewhere x.holder s

-- what the line of a cell answers to a change
abbrev pub tried : {L O : Type 0} → Method L O → (L → ℕ → ℕ → Outcome L) → Change → Option (Cell L O) → Result L LineFault
tried m f c None = Err (NoSuchLine c.line)
tried m f c (Some x) = change f (m.live x.own) c

-- the cells after a seat with the hand h changed line i, where the line answered r
abbrev pub changed_cells : {L O : Type 0} → Method L O → Clock → ℕ → ℕ → Option Hand → Result L LineFault → List (Cell L O) → List (Cell L O)
changed_cells m k s i None r cells = cells
changed_cells m k s i (Some h) (Err fault) cells = cells
changed_cells m k s i (Some h) (Ok x) cells = alter (changed_cell m k s h.began x) cells i

abbrev pub cell_refusals : {L O : Type 0} → ℕ → Change → State L O → List (Bool × KeeperFault)
cell_refusals s c t =
    (nat_le 16 s, NoSuchSeat s)
    ∷ (not (is_some (hand_at t s)), SeatNotOpen s)
    ∷ (nat_le (length t.cells) c.line, Line (NoSuchLine c.line))
    ∷ (held_at s (slice_get t.cells c.line), Held c.line)
    ∷ (nat_le 4 (length (changes_of_hand (hand_at t s))), FifthChange s)
    ∷ []

abbrev pub changed_state : {L O : Type 0} → Method L O → (L → ℕ → ℕ → Outcome L) → ℕ → Change → State L O → State L O
changed_state m f s c t =
    with_hand s (added c (hand_at t s)) (with_cells (changed_cells m t.clock s c.line (hand_at t s) (tried m f c (slice_get t.cells c.line)) t.cells) t)

-- A change is refused as the keeper refuses it, where a line is held by its cell's holder, and the line is the cell's.
abbrev pub changed : {L O : Type 0} → Method L O → (L → ℕ → ℕ → Outcome L) → ℕ → Change → State L O → Result (Unit {0}) KeeperFault × State L O
changed m f s c t = judged (first (cell_refusals s c t) (line_fault (tried m f c (slice_get t.cells c.line)))) tt (changed_state m f s c t) t

-- the cells after the end e of a command in seat s with the hand h
abbrev pub ended_cells : {L O : Type 0} → Method L O → End → Clock → ℕ → Option Hand → List (Cell L O) → List (Cell L O)
ended_cells m e k s None cells = cells
ended_cells m e k s (Some h) cells = walk (ended_cell m e k s h.began) h.changes cells

abbrev pub ended_state : {L O : Type 0} → Method L O → End → ℕ → State L O → State L O
ended_state m e s t = with_hand s None (with_cells (ended_cells m e t.clock s (hand_at t s) t.cells) t)

abbrev pub ended : {L O : Type 0} → Method L O → End → ℕ → State L O → Result (Unit {0}) KeeperFault × State L O
ended m e s t =
    judged (first (end_refusals s (meaning m t)) None) tt (ended_state m e s t) t

abbrev pub looked : {L O : Type 0} → Method L O → ℕ → State L O → Result L KeeperFault
looked m i t = found i (option_map (committed_of m) (slice_get t.cells i))

-- the state at the point: all lines are due, and cells are written only where the method sweeps
abbrev pub at_point : {L O : Type 0} → Method L O → State L O → State L O
at_point m t = record { cells = cond m.sweeps (map (pointed_cell m) t.cells) t.cells; seats = t.seats; clock = t.clock; given = 0 }

-- the state one stage on: the clock ticks, and on the turn from Called the point is passed; no other turn writes a cell
abbrev pub moved_on : {L O : Type 0} → Method L O → State L O → State L O
moved_on m t = record {
  cells = cond (same t.clock.stage Called) (at_point m t).cells t.cells;
  seats = t.seats;
  clock = ticked t.clock;
  given = cond (same t.clock.stage Called) (at_point m t).given t.given;
}

abbrev pub called : {L O : Type 0} → Method L O → State L O → Result (Unit {0}) KeeperFault × State L O
called m t = judged (first (call_refusals (meaning m t)) None) tt (moved_on m t) t

abbrev pub waits : {L O : Type 0} → State L O → Option KeeperFault
waits t =
    cond (same t.clock.stage Taking) (cond (length t.cells - t.given == 0) None (Some (WaitsForLines (length t.cells - t.given))))
    (option_map (λ s. WaitsForSeat s) (lowest (awaits t.clock.stage) t.seats))

abbrev pub turned : {L O : Type 0} → Method L O → State L O → Result (Unit {0}) KeeperFault × State L O
turned m t = judged (first (turn_refusals (meaning m t)) (waits t)) tt (moved_on m t) t

abbrev pub handed : {L O : Type 0} → Method L O → Option (Cell L O) → State L O → Option (Given L) × State L O
handed m None t = (None, t)
handed m (Some x) t = (
  Some (m.gives t.clock x.own),
  record { cells = alter (given_cell m t.clock) t.cells t.given; seats = t.seats; clock = t.clock; given = t.given + 1 },
)

abbrev pub given_out : {L O : Type 0} → Method L O → State L O → Option (Given L) × State L O
given_out m t = handed m (cond (same t.clock.stage Taking) (slice_get t.cells t.given) None) t
