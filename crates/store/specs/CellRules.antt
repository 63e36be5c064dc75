-- What the store does to one cell, and to the cells of a command's lines, through the rules m of a method.
--
--   by h s           whether the holder h is the seat s
--   elsewhere h s    whether there is a holder, and it is another seat than s
--   fresh_cell       a cell at opening, from its line
--   changed_cell     a cell that seat s, whose command began in stage b, changes to the line x; s holds it, or nobody does
--   ending m e       the rule of an end e, commit or abandon
--   ended_cell       a cell that seat s lets go at such an end; another's is as it was
--   given_cell, pointed_cell   a cell after giving out, and at the point
--   committed_of     a cell's line with committed changes only
--   named_of, due_of   whether it is named since the last point; what is due of it
--   alter f xs i     the list xs with its i-th element altered by f, if there is one
--   walk f cs xs     the list xs with f made at the line of each of the changes cs
use Rattle.std.specs.Prelude.{ℕ, zero, suc, Bool, false, cond, not, List, [], ◌∷◌, is_some, Some, None, Option, ◌==◌}
use Rattle.lines.specs.declared.changes.Change.{Change}
use Rattle.keepers.specs.declared.clocks.Clock.{Clock}
use Rattle.keepers.specs.declared.given.Given.{Given}
use Rattle.keepers.specs.declared.stages.Stage.{Stage}
use Rattle.keepers.specs.Methods.{Method, committed_line}
use Rattle.store.specs.declared.cells.Cell.{Cell}
use Rattle.store.specs.declared.cells.End.{End}
use Rattle.store.specs.declared.cells.End.TheVariants.{Commit, Abandon}

abbrev pub by : Option ℕ → ℕ → Bool
by None s = false
by (Some t) s = t == s

abbrev pub elsewhere : Option ℕ → ℕ → Bool
elsewhere None s = false
elsewhere (Some t) s = not (t == s)

abbrev pub fresh_cell : {L O : Type 0} → Method L O → L → Cell L O
fresh_cell m x = record { own = m.fresh x; holder = None; before = x }

abbrev pub changed_cell : {L O : Type 0} → Method L O → Clock → ℕ → Stage → L → Cell L O → Cell L O
changed_cell m k s b x c = record {
  own = cond (is_some c.holder) (m.later k c.own x) (m.first k b c.own x);
  holder = Some s;
  before = cond (is_some c.holder) c.before (m.live c.own);
}

abbrev pub ending : {L O : Type 0} → Method L O → End → Clock → Stage → O → L → O
ending m Commit k b o before = m.commit k b o
ending m Abandon k b o before = m.abandon k b o before

abbrev pub ended_cell : {L O : Type 0} → Method L O → End → Clock → ℕ → Stage → Cell L O → Cell L O
ended_cell m e k s b c = record {
  own = cond (by c.holder s) (ending m e k b c.own c.before) c.own;
  holder = cond (by c.holder s) None c.holder;
  before = c.before;
}

abbrev pub given_cell : {L O : Type 0} → Method L O → Clock → Cell L O → Cell L O
given_cell m k c = record { own = m.given k c.own; holder = c.holder; before = c.before }

abbrev pub pointed_cell : {L O : Type 0} → Method L O → Cell L O → Cell L O
pointed_cell m c = record { own = m.pointed c.own; holder = c.holder; before = c.before }

abbrev pub committed_of : {L O : Type 0} → Method L O → Cell L O → L
committed_of m c = committed_line m (is_some c.holder) c.before c.own

abbrev pub named_of : {L O : Type 0} → Method L O → Clock → Cell L O → Bool
named_of m k c = m.named k (is_some c.holder) c.own

abbrev pub due_of : {L O : Type 0} → Method L O → Clock → Cell L O → Given L
due_of m k c = m.due k (is_some c.holder) c.before c.own

abbrev pub alter : {A : Type 0} → (A → A) → List A → ℕ → List A
alter f [] i = []
alter f (x ∷ xs) zero = f x ∷ xs
alter f (x ∷ xs) (suc i) = x ∷ alter f xs i

abbrev pub walk : {A : Type 0} → (A → A) → List Change → List A → List A
walk f [] xs = xs
walk f (c ∷ cs) xs = walk f cs (alter f xs c.line)
