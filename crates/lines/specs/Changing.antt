-- What a kind of line makes of a change.
--
--   Outcome L         the new line; or the kind has no change of that number; or the result would break the rule
--   judged k o        a change's result under the rule k; o is none where a number that has no sign would be below zero
--   chosen k t n      the change of number n in the table t of results, judged by the rule k
--   answered i o      the outcome o of a change on line i, as the answer that a caller gets
--   KeepsRule k f     an accepted change gives a line that keeps the rule k
use Rattle.std.specs.Prelude.{◌≡◌, ℕ, Bool, true, cond, List, [], ◌∷◌, Some, None, Ok, Err, Option, Result, ◌==◌}
use Rattle.lines.specs.declared.faults.LineFault.{LineFault}
use Rattle.lines.specs.declared.faults.LineFault.TheVariants.{UnknownChange, AgainstRule}

pub data Outcome (L : Type 0) : Type 0 where
  becomes : L → Outcome L
  unknown : Outcome L
  breaks : Outcome L

abbrev pub judged : {L : Type 0} → (L → Bool) → Option L → Outcome L
judged keeps None = breaks
judged keeps (Some x) = cond (keeps x) (becomes x) breaks

abbrev pub chosen : {L : Type 0} → (L → Bool) → List (ℕ × Option L) → ℕ → Outcome L
chosen keeps [] kind = unknown
chosen keeps (row ∷ rows) kind = cond (kind == row.0) (judged keeps row.1) (chosen keeps rows kind)

abbrev pub answered : {L : Type 0} → ℕ → Outcome L → Result L LineFault
answered i (becomes x) = Ok x
answered i unknown = Err (UnknownChange i)
answered i breaks = Err (AgainstRule i)

abbrev pub KeepsRule : {L : Type 0} → (L → Bool) → (L → ℕ → ℕ → Outcome L) → Type 0
KeepsRule {L} keeps changed = (x y : L) (kind amount : ℕ) → changed x kind amount ≡ becomes y → keeps y ≡ true
