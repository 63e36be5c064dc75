-- Lines by number: the line of number i is the i-th of a list, from 0.
--
--   front k ls        how many lines stand before the first that breaks the rule k
--   change f x c      what a line x answers to the change c: its kind's changes f decide
--   make f ls c       the lines with the change c made on the line that it names; or why it is refused
--   standing ls r     the lines as they stand after an attempt r: the new ones, or where it was refused the old ls
--   verdict r         an attempt without its lines: accepted, or why not
--   after f ls cs     the lines after the changes cs, made in order up to the first that is refused
--   verdicts f ls cs  whether all of cs are accepted, or why the first that is not is refused
use Rattle.std.specs.Prelude.{ℕ, suc, Bool, cond, List, [], ◌∷◌, Some, None, Ok, Err, Option, Result, slice_set}
use Rattle.std.specs.List.{slice_get}
use Rattle.lines.specs.declared.changes.Change.{Change}
use Rattle.lines.specs.declared.faults.LineFault.{LineFault}
use Rattle.lines.specs.declared.faults.LineFault.TheVariants.{NoSuchLine}
use Rattle.lines.specs.Changing.{Outcome, answered}

abbrev pub front : {L : Type 0} → (L → Bool) → List L → ℕ
front keeps [] = 0
front keeps (x ∷ xs) = cond (keeps x) (suc (front keeps xs)) 0

abbrev pub standing : {L : Type 0} → List L → Result (List L) LineFault → List L
standing ls (Ok new) = new
standing ls (Err fault) = ls

abbrev pub verdict : {L : Type 0} → Result (List L) LineFault → Result (Unit {0}) LineFault
verdict (Ok new) = Ok tt
verdict (Err fault) = Err fault

abbrev with_line : {L : Type 0} → List L → ℕ → Result L LineFault → Result (List L) LineFault
with_line ls i (Ok x) = Ok (slice_set ls i x)
with_line ls i (Err fault) = Err fault

abbrev pub change : {L : Type 0} → (L → ℕ → ℕ → Outcome L) → L → Change → Result L LineFault
change f x c = answered c.line (f x c.kind c.amount)

abbrev on_line : {L : Type 0} → (L → ℕ → ℕ → Outcome L) → List L → Change → Option L → Result (List L) LineFault
on_line f ls c None = Err (NoSuchLine c.line)
on_line f ls c (Some x) = with_line ls c.line (change f x c)

abbrev pub make : {L : Type 0} → (L → ℕ → ℕ → Outcome L) → List L → Change → Result (List L) LineFault
make f ls c = on_line f ls c (slice_get ls c.line)

abbrev pub after : {L : Type 0} → (L → ℕ → ℕ → Outcome L) → List L → List Change → List L
after f ls [] = ls
after f ls (c ∷ cs) = elim (make f ls c) [ Ok new ↦ after f new cs | Err fault ↦ ls ]

abbrev pub verdicts : {L : Type 0} → (L → ℕ → ℕ → Outcome L) → List L → List Change → Result (Unit {0}) LineFault
verdicts f ls [] = Ok tt
verdicts f ls (c ∷ cs) = elim (make f ls c) [ Ok new ↦ verdicts f new cs | Err fault ↦ Err fault ]
