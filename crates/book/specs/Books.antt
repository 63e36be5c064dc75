-- What a book is, and what each call answers and does.
--
--   Setting L     what a book is over: its kind of line, by its coding and its changes; whether its keeper is quiet; what an entry costs its log
--   Progress      how far the image of the last point is taken: nothing; the head and so many line records; all, with the end
--   Book L        a book: see its fields
--   Call          what a book can be asked; a seat's calls go by the seat
--   Answer L      accepted; a line; bytes that a take wrote; or refused
--   new ls l      a new book over the lines ls, with the log l, which it empties
--   or_else       the first refusal, if there is one; else the second
--   hand_over     the call as the keeper answers it
--   step g c b    the answer to the call c, and the book after it
use Rattle.std.specs.Prelude.{ℕ, suc, ◌+◌, ◌-◌, Bool, true, false, cond, not, ◌&&◌, List, [], length, Some, None, Ok, Err, Option, Result, nat_le}
use Rattle.std.specs.Option.{option_map}
use Rattle.lines.specs.declared.changes.Change.{Change}
use Rattle.lines.specs.declared.faults.Layer.TheVariants.{Book as OfBook, Image as OfImage}
use Rattle.lines.specs.declared.faults.Refusal.{Refusal}
use Rattle.lines.specs.Changing.{Outcome}
use Rattle.lines.specs.Coding.{Coding}
use Rattle.records.specs.declared.heads.Head.{Head}
use Rattle.records.specs.declared.heads.Mode.{Mode}
use Rattle.records.specs.declared.heads.Mode.TheVariants.{Full, Partial}
use Rattle.records.specs.Commands.{command_of}
use Rattle.records.specs.Framing.{bytes_of}
use Rattle.records.specs.Heads.{head_record, mode_of}
use Rattle.records.specs.ImageLines.{line_record, numbered}
use Rattle.records.specs.Numbers.{end_record}
use Rattle.logs.specs.declared.entries.Entry.{Entry}
use Rattle.logs.specs.declared.entries.Entry.TheVariants.{Command, Mark}
use Rattle.logs.specs.declared.faults.LogFault.TheVariants.{Full as LogFull}
use Rattle.logs.specs.Faults.{refusal as log_refusal}
use Rattle.logs.specs.Logs.{Log, room, append, emptied}
use Rattle.keepers.specs.declared.faults.KeeperFault.{KeeperFault}
use Rattle.keepers.specs.declared.given.Given.{Given}
use Rattle.keepers.specs.declared.stages.Stage.TheVariants.{Rest, Called, Taking}
use Rattle.keepers.specs.Calls.{first, begins, changes, committed, end_refusals, abandons, looks, calls, turned, waiting, gives}
use Rattle.keepers.specs.Faults.{refusal as keeper_refusal}
use Rattle.keepers.specs.Meanings.{Meaning, changes_in, opened}
use Rattle.keepers.specs.Stages.{same, number}
use Rattle.lines.specs.Faults.{told}

pub record Setting (L : Type 0) : Type 0 where
  pub coding : Coding L
  pub changed : L → ℕ → ℕ → Outcome L
  pub quiet : Bool
  pub cost : Entry → ℕ

pub data Progress : Type 0 where
  nothing : Progress
  lines_out : ℕ → Progress
  all_out : Progress

pub record Book (L : Type 0) : Type 0 where
  -- what its keeper means, and what its log holds
  pub keeper : Meaning L
  pub log : Log
  -- how many points it has passed
  pub points : ℕ
  -- whether the image of its last call is full or partial
  pub mode : Mode
  pub progress : Progress

pub data SeatCall : Type 0 where
  begin : SeatCall
  change : Change → SeatCall
  commit : SeatCall
  abandon : SeatCall

-- look has a line number, call a mode's code, take how many bytes of memory it is lent
pub data Call : Type 0 where
  seat : ℕ → SeatCall → Call
  look : ℕ → Call
  call : ℕ → Call
  turn : Call
  take : ℕ → Call

pub data Answer (L : Type 0) : Type 0 where
  done : Answer L
  line : L → Answer L
  bytes : List ℕ → Answer L
  refused : Refusal → Answer L

abbrev pub new : {L : Type 0} → List L → Log → Book L
new ls log = record { keeper = opened ls; log = emptied log; points = 0; mode = Full; progress = nothing }

abbrev pub or_else : Option Refusal → Option Refusal → Option Refusal
or_else (Some r) later = Some r
or_else None later = later

-- refused with r, and all stands; or where r is none, the answer and the book after
abbrev pub judged : {L : Type 0} → Option Refusal → Answer L × Book L → Book L → Answer L × Book L
judged (Some r) new old = (refused r, old)
judged None new old = new

abbrev pub with_keeper : {L : Type 0} → Meaning L → Book L → Book L
with_keeper m b = record { keeper = m; log = b.log; points = b.points; mode = b.mode; progress = b.progress }

abbrev pub hand_over : {L : Type 0} → Result (Unit {0}) KeeperFault × Meaning L → Book L → Answer L × Book L
hand_over r b = (elim r.0 [ Ok t ↦ done | Err fault ↦ refused (keeper_refusal fault) ], with_keeper r.1 b)

-- what stands in the log's way: it is full for the entry e
abbrev pub no_room : {L : Type 0} → Setting L → Entry → Book L → Option Refusal
no_room g e b = cond (room g.cost b.log e) None (Some (log_refusal (LogFull (length b.log.entries))))

-- Commit appends the seat's command to the log and makes its changes last.
abbrev pub command_in : {L : Type 0} → ℕ → Book L → Entry
command_in s b = Command (command_of (changes_in b.keeper s))

abbrev pub commits : {L : Type 0} → Setting L → ℕ → Book L → Answer L × Book L
commits g s b =
    judged (or_else (option_map keeper_refusal (first (end_refusals s b.keeper) None)) (no_room g (command_in s b) b)) (
      done,
      record {
        keeper = committed g.changed s b.keeper;
        log = append g.cost b.log (command_in s b);
        points = b.points;
        mode = b.mode;
        progress = b.progress;
      },
    )
    b

-- Call, with a mode, goes from Rest to Called.
abbrev pub in_mode : {L : Type 0} → Mode → Answer L × Book L → Answer L × Book L
in_mode m r = (r.0, record { keeper = r.1.keeper; log = r.1.log; points = r.1.points; mode = m; progress = r.1.progress })

abbrev pub called : {L : Type 0} → ℕ → Option Mode → Book L → Answer L × Book L
called code None b = (refused (told 3 OfBook code), b)
called code (Some m) b =
    judged (cond (same b.keeper.stage Rest) None (Some (told 27 OfBook (number b.keeper.stage)))) (in_mode m (hand_over (calls b.keeper) b)) b

-- how many takes are due: the head, each line, and the end
abbrev pub takes_due : {L : Type 0} → Book L → Progress → ℕ
takes_due b nothing = length b.keeper.lines + 2
takes_due b (lines_out w) = length b.keeper.due + 1
takes_due b all_out = 0

abbrev pub all_taken : Progress → Bool
all_taken nothing = false
all_taken (lines_out w) = false
all_taken all_out = true

-- A turn waits for seats as the keeper does; in Taking until the end record is out.
abbrev pub waits : {L : Type 0} → Book L → Option Refusal
waits b =
    cond (same b.keeper.stage Taking) (cond (all_taken b.progress) None (Some (told 28 OfBook (takes_due b b.progress))))
    (option_map keeper_refusal (waiting b.keeper))

abbrev pub at_point : {L : Type 0} → Book L → Bool
at_point b = same b.keeper.stage Called

-- On the turn from Called, the point, p grows by one and a mark of the new p is appended.
abbrev pub turns : {L : Type 0} → Setting L → Book L → Answer L × Book L
turns g b =
    judged
    (
    or_else (cond (same b.keeper.stage Rest) (Some (told 29 OfBook 0)) None)
    (or_else (waits b) (cond (at_point b) (no_room g (Mark (suc b.points)) b) None))
    ) (
      done,
      record {
        keeper = turned b.keeper;
        log = cond (at_point b) (append g.cost b.log (Mark (suc b.points))) b.log;
        points = cond (at_point b) (suc b.points) b.points;
        mode = b.mode;
        progress = cond (at_point b) nothing b.progress;
      },
    )
    b

-- The head of the image of the last point. A partial image goes on from the point before.
abbrev pub goes_from : Mode → ℕ → ℕ
goes_from Full p = 0
goes_from Partial p = p - 1

abbrev pub head : {L : Type 0} → Setting L → Book L → Head
head g b = record {
  code = g.coding.code;
  mode = b.mode;
  n = length b.keeper.lines;
  from = goes_from b.mode b.points;
  point = b.points;
}

-- whether an image in this mode has a line that is given out
abbrev pub has_line : {L : Type 0} → Mode → Given L → Bool
has_line Full d = true
has_line Partial d = d.named

abbrev pub with_progress : {L : Type 0} → Progress → Book L → Book L
with_progress w b = record { keeper = b.keeper; log = b.log; points = b.points; mode = b.mode; progress = w }

-- Take writes the next record: the head; each line that the keeper gives out, or nothing for one that a partial image leaves out; the end.
abbrev pub line_taken : {L : Type 0} → Setting L → ℕ → Option (Given L) × Meaning L → Book L → Answer L × Book L
line_taken g w (None, m) b = (bytes (bytes_of end_record w), with_progress all_out b)
line_taken g w (Some d, m) b = (
  bytes (cond (has_line b.mode d) (bytes_of (line_record g.coding) (numbered b.keeper.given d.line)) []),
  with_progress (lines_out (cond (has_line b.mode d) (suc w) w)) (with_keeper m b),
)

abbrev pub taken : {L : Type 0} → Setting L → Progress → Book L → Answer L × Book L
taken g nothing b = (bytes (bytes_of head_record (head g b)), with_progress (lines_out 0) b)
taken g (lines_out w) b = line_taken g w (gives b.keeper) b
taken g all_out b = (bytes [], b)

abbrev pub takes : {L : Type 0} → Setting L → ℕ → Book L → Answer L × Book L
takes g size b =
    judged
    (
    or_else (cond (same b.keeper.stage Taking && not (all_taken b.progress)) None (Some (told 30 OfBook (number b.keeper.stage))))
    (cond (nat_le 32 size) None (Some (told 4 OfImage 32)))
    )
    (taken g b.progress b) b

abbrev pub looked : {L : Type 0} → Result L KeeperFault → Answer L
looked (Ok x) = line x
looked (Err fault) = refused (keeper_refusal fault)

abbrev pub step : {L : Type 0} → Setting L → Call → Book L → Answer L × Book L
step g (seat s begin) b = hand_over (begins g.quiet s b.keeper) b
step g (seat s (change c)) b = hand_over (changes g.changed s c b.keeper) b
step g (seat s commit) b = commits g s b
step g (seat s abandon) b = hand_over (abandons s b.keeper) b
step g (look i) b = (looked (looks i b.keeper), b)
step g (call code) b = called code (mode_of code) b
step g turn b = turns g b
step g (take size) b = takes g size b
