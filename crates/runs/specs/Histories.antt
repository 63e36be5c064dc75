-- What a transcript gives: the history, the image of each point, and the lines after commands. Events are accepted ones, the newest first.
--
--   history es        the commands committed and the marks of the points passed, in order: what the log has to hold
--   changes_in hs     the changes of the commands of a history, in order
--   names hs i        whether a command of the history hs names line i
--   before q es       the events before the point q, if it was passed
--   behind q es       what the takes since the point q wrote, in order, if it was passed
--   image q es        the image of the point q: what they wrote up to and with the end record; none until that is there
use Rattle.std.specs.Prelude.{ℕ, suc, Bool, cond, List, [], ◌∷◌, ◌++◌, is_some, Some, None, Option}
use Rattle.std.specs.Option.{option_map}
use Rattle.lines.specs.declared.changes.Change.{Change}
use Rattle.records.specs.Commands.{changes_of, command_of}
use Rattle.records.specs.Framing.{read}
use Rattle.records.specs.Numbers.{end_record}
use Rattle.logs.specs.declared.entries.Entry.{Entry}
use Rattle.logs.specs.declared.entries.Entry.TheVariants.{Command, Mark}
use Rattle.keepers.specs.Meanings.{names as change_names}
use Rattle.book.specs.Books.{SeatCall, Call, Answer}
use Rattle.book.specs.Books.SeatCall.{begin, change, commit, abandon}
use Rattle.book.specs.Books.Call.{seat, look, call, turn, take}
use Rattle.book.specs.Books.Answer.{done, line, bytes, refused}
use Rattle.runs.specs.Events.{Event, at_point, points, passes, hand}

abbrev pub or_none : Option (List Change) → List Change
or_none None = []
or_none (Some cs) = cs

-- only a commit adds, and what it adds is the command in hand
abbrev pub with_command : SeatCall → List Change → List Entry → List Entry
with_command begin cs h = h
with_command (change c) cs h = h
with_command commit cs h = h ++ Command (command_of cs) ∷ []
with_command abandon cs h = h

abbrev pub history_after : {L : Type 0} → Call → List (Event L) → List Entry → List Entry
history_after (seat s c) es h = with_command c (or_none (hand s es)) h
history_after (look i) es h = h
history_after (call code) es h = h
history_after turn es h = cond (at_point es) (h ++ Mark (suc (points es)) ∷ []) h
history_after (take size) es h = h

abbrev pub history : {L : Type 0} → List (Event L) → List Entry
history [] = []
history (e ∷ es) = history_after e.asked es (history es)

abbrev pub changes_in : List Entry → List Change
changes_in [] = []
changes_in (Command c ∷ hs) = changes_of c ++ changes_in hs
changes_in (Mark p ∷ hs) = changes_in hs

abbrev pub names : List Entry → ℕ → Bool
names hs i = change_names (changes_in hs) i

abbrev pub before_after : {L : Type 0} → ℕ → Call → List (Event L) → Option (List (Event L)) → Option (List (Event L))
before_after q (seat s c) es found = found
before_after q (look i) es found = found
before_after q (call code) es found = found
before_after q turn es found = cond (passes q es) (Some es) found
before_after q (take size) es found = found

abbrev pub before : {L : Type 0} → ℕ → List (Event L) → Option (List (Event L))
before q [] = None
before q (e ∷ es) = before_after q e.asked es (before q es)

-- what a take wrote
abbrev pub written : {L : Type 0} → Answer L → List ℕ
written done = []
written (line x) = []
written (bytes bs) = bs
written (refused r) = []

abbrev pub behind_after : {L : Type 0} → ℕ → Call → Answer L → List (Event L) → Option (List (List ℕ)) → Option (List (List ℕ))
behind_after q (seat s c) a es rs = rs
behind_after q (look i) a es rs = rs
behind_after q (call code) a es rs = rs
behind_after q turn a es rs = cond (passes q es) (Some []) rs
behind_after q (take size) a es rs = option_map (λ before. before ++ written a ∷ []) rs

abbrev pub behind : {L : Type 0} → ℕ → List (Event L) → Option (List (List ℕ))
behind q [] = None
behind q (e ∷ es) = behind_after q e.asked e.answer es (behind q es)

abbrev pub is_end : List ℕ → Bool
is_end bs = is_some (read end_record bs)

abbrev pub up_to_end : List (List ℕ) → Option (List ℕ)
up_to_end [] = None
up_to_end (r ∷ rs) = cond (is_end r) (Some r) (option_map (λ bs. r ++ bs) (up_to_end rs))

abbrev pub image_in : Option (List (List ℕ)) → Option (List ℕ)
image_in None = None
image_in (Some rs) = up_to_end rs

abbrev pub image : {L : Type 0} → ℕ → List (Event L) → Option (List ℕ)
image q es = image_in (behind q es)
