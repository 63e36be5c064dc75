-- How lines are rebuilt from a full image and a log.
--
--   mark_at q es i       the index of the last mark of point q among the entries es, the first of which has index i
--   replayed f ls cs i   the lines ls after the changes cs of entry i, made in order; or why one of them is refused
--   behind f ls es i     the lines after every command of the entries es, the first of which has index i; marks do nothing
--   Replay L             the lines as they then stand, and the refusal at which it stopped, if it did
--   rebuilt f g bs es ls the answer, and the memory ls after it
use Rattle.std.specs.Prelude.{ℕ, suc, cond, List, [], ◌∷◌, ◌++◌, map, length, drop, Some, None, Ok, Err, Option, Result, ◌==◌, nat_le}
use Rattle.lines.specs.declared.changes.Change.{Change}
use Rattle.lines.specs.Changing.{Outcome}
use Rattle.lines.specs.Coding.{Coding}
use Rattle.lines.specs.Numbered.{make}
use Rattle.records.specs.Commands.{changes_of}
use Rattle.logs.specs.declared.entries.Entry.{Entry}
use Rattle.logs.specs.declared.entries.Entry.TheVariants.{Command, Mark}
use Rattle.images.specs.declared.faults.Unlawful.{Unlawful}
use Rattle.images.specs.Images.{Content}
use Rattle.joins.specs.Joining.{partial}
use Rattle.images.specs.Reading.{reading}
use Rattle.book.specs.declared.faults.RebuildFault.{RebuildFault}
use Rattle.book.specs.declared.faults.RebuildFault.TheVariants.{Image, Partial as PartialImage, Short, NoMark, Refused}

abbrev pub later : Option ℕ → Option ℕ → Option ℕ
later (Some i) found = Some i
later None found = found

-- a mark further back counts only where there is none behind it
abbrev pub mark_at : ℕ → List Entry → ℕ → Option ℕ
mark_at q [] i = None
mark_at q (Command c ∷ es) i = mark_at q es (suc i)
mark_at q (Mark p ∷ es) i = later (mark_at q es (suc i)) (cond (p == q) (Some i) None)

pub record Replay (L : Type 0) : Type 0 where
  pub lines : List L
  pub stopped : Option RebuildFault

abbrev pub replayed : {L : Type 0} → (L → ℕ → ℕ → Outcome L) → List L → List Change → ℕ → Replay L
replayed f ls [] i = record { lines = ls; stopped = None }
replayed f ls (c ∷ cs) i = elim (make f ls c) [ Ok new ↦ replayed f new cs i | Err fault ↦ record { lines = ls; stopped = Some (Refused i fault) } ]

abbrev pub go_on : {L : Type 0} → Replay L → (List L → Replay L) → Option RebuildFault → Replay L
go_on r next None = next r.lines
go_on r next (Some fault) = r

abbrev pub behind : {L : Type 0} → (L → ℕ → ℕ → Outcome L) → List L → List Entry → ℕ → Replay L
behind f ls [] i = record { lines = ls; stopped = None }
behind f ls (Command c ∷ es) i = go_on (replayed f ls (changes_of c) i) (λ new. behind f new es (suc i)) (replayed f ls (changes_of c) i).stopped
behind f ls (Mark p ∷ es) i = behind f ls es (suc i)

abbrev pub image_lines : {L : Type 0} → Content L → List L
image_lines c = map (λ v. v.line) c.lines

abbrev pub answered : ℕ → Option RebuildFault → Result ℕ RebuildFault
answered n None = Ok n
answered n (Some fault) = Err fault

-- the lines of the image, then every command behind the mark; what lies past the first n lines of the memory stays
abbrev pub from_mark : {L : Type 0} → (L → ℕ → ℕ → Outcome L) → Content L → List Entry → List L → Option ℕ → Result ℕ RebuildFault × List L
from_mark f c es ls None = (Err (NoMark c.point), ls)
from_mark f c es ls (Some i) =
    let r = behind f (image_lines c) (drop (suc i) es) (suc i) in
    (answered c.n r.stopped, r.lines ++ drop c.n ls)

abbrev pub rebuilt_from : {L : Type 0} → (L → ℕ → ℕ → Outcome L) → Result (Content L) Unlawful → List Entry → List L → Result ℕ RebuildFault × List L
rebuilt_from f (Err u) es ls = (Err (Image u), ls)
rebuilt_from f (Ok c) es ls =
    cond (partial c.mode) (Err (PartialImage c.point), ls)
    (cond (nat_le c.n (length ls)) (from_mark f c es ls (mark_at c.point es 0)) (Err (Short c.n), ls))

abbrev pub rebuilt : {L : Type 0} → Coding L → (L → ℕ → ℕ → Outcome L) → List ℕ → List Entry → List L → Result ℕ RebuildFault × List L
rebuilt g f bs es ls = rebuilt_from f (reading g bs) es ls
