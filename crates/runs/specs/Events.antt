-- A run as a transcript: calls with their answers. Nothing here knows of a book's state; each can be worked out by hand from the transcript.
--
--   Event L        a call and its answer
--   accepted es    the events whose call was not refused
--
-- The rest are functions of accepted events, the newest first, so that "since its last begin" and "before that mark" are what is left of the list.
--   stage es       the stage after them
--   points es      how many points were passed
--   mode es        the mode of the last call
--   hand s es      the command in hand of seat s: its changes since its last begin, unless it was committed or abandoned since
--   passes q es    whether a turn that comes next is the point q
use Rattle.std.specs.Prelude.{ℕ, suc, Bool, true, false, cond, ◌&&◌, List, [], ◌∷◌, ◌++◌, Some, None, Option, ◌==◌}
use Rattle.std.specs.Option.{option_map}
use Rattle.lines.specs.declared.changes.Change.{Change}
use Rattle.records.specs.declared.heads.Mode.{Mode}
use Rattle.records.specs.Heads.{mode_of}
use Rattle.keepers.specs.declared.stages.Stage.{Stage}
use Rattle.keepers.specs.declared.stages.Stage.TheVariants.{Rest, Called}
use Rattle.keepers.specs.Stages.{same, onward}
use Rattle.book.specs.Books.{SeatCall, Call, Answer}
use Rattle.book.specs.Books.SeatCall.{begin, change, commit, abandon}
use Rattle.book.specs.Books.Call.{seat, look, call, turn, take}
use Rattle.book.specs.Books.Answer.{done, line, bytes, refused}

pub record Event (L : Type 0) : Type 0 where
  pub asked : Call
  pub answer : Answer L

abbrev pub is_refused : {L : Type 0} → Answer L → Bool
is_refused done = false
is_refused (line x) = false
is_refused (bytes bs) = false
is_refused (refused r) = true

abbrev pub accepted : {L : Type 0} → List (Event L) → List (Event L)
accepted [] = []
accepted (e ∷ es) = cond (is_refused e.answer) (accepted es) (e ∷ accepted es)

abbrev pub stage_after : Call → Stage → Stage
stage_after (seat s c) g = g
stage_after (look i) g = g
stage_after (call code) g = Called
stage_after turn g = onward g
stage_after (take size) g = g

abbrev pub stage : {L : Type 0} → List (Event L) → Stage
stage [] = Rest
stage (e ∷ es) = stage_after e.asked (stage es)

-- in Called, from where a turn is the point
abbrev pub at_point : {L : Type 0} → List (Event L) → Bool
at_point es = same (stage es) Called

abbrev pub points_after : Call → Bool → ℕ → ℕ
points_after (seat s c) here p = p
points_after (look i) here p = p
points_after (call code) here p = p
points_after turn here p = cond here (suc p) p
points_after (take size) here p = p

abbrev pub points : {L : Type 0} → List (Event L) → ℕ
points [] = 0
points (e ∷ es) = points_after e.asked (at_point es) (points es)

abbrev pub passes : {L : Type 0} → ℕ → List (Event L) → Bool
passes q es = at_point es && suc (points es) == q

abbrev pub mode_after : Call → Option Mode → Option Mode
mode_after (seat s c) m = m
mode_after (look i) m = m
mode_after (call code) m = mode_of code
mode_after turn m = m
mode_after (take size) m = m

abbrev pub mode : {L : Type 0} → List (Event L) → Option Mode
mode [] = None
mode (e ∷ es) = mode_after e.asked (mode es)

abbrev pub in_hand : SeatCall → Option (List Change) → Option (List Change)
in_hand begin cs = Some []
in_hand (change c) cs = option_map (λ before. before ++ c ∷ []) cs
in_hand commit cs = None
in_hand abandon cs = None

abbrev pub hand_after : ℕ → Call → Option (List Change) → Option (List Change)
hand_after s (seat t c) cs = cond (t == s) (in_hand c cs) cs
hand_after s (look i) cs = cs
hand_after s (call code) cs = cs
hand_after s turn cs = cs
hand_after s (take size) cs = cs

abbrev pub hand : {L : Type 0} → ℕ → List (Event L) → Option (List Change)
hand s [] = None
hand s (e ∷ es) = hand_after s e.asked (hand s es)
