-- Zigzag. A cell has two copies of its line, 0 and 1: `even` and `odd` of a pair. Bit MR says which copy is read, bit MW which one a change writes; a bit is 1 where it is true.
--
--   copy c i          copy i
--   with_copy c i x   the cell with x as its copy i
--   changed c x       a change to the line x
--   abandoned c x     an abandon, with the before line x
--   pointed c         the point
--   zigzag            the method: quiet, and its point writes every cell
--   IsSound             what the rules rely on: see its fields
use Rattle.std.specs.Prelude.{◌≡◌, Bool, true, false, not, is_some, Option}
use Rattle.keepers.specs.declared.clocks.Clock.{Clock}
use Rattle.keepers.specs.declared.stages.Stage.{Stage}
use Rattle.keepers.specs.Methods.{Method}
use Rattle.keepers.specs.Pairs.{both, part, with_part}
use Rattle.zigzag.specs.declared.twins.Twin.{Twin}

abbrev pub copy : {L : Type 0} → Twin L → Bool → L
copy c i = part c.copies i

abbrev pub with_copy : {L : Type 0} → Twin L → Bool → L → Twin L
with_copy c i x = record { copies = with_part c.copies i x; mr = c.mr; mw = c.mw; named = c.named }

-- both copies are the opening line, MR = 0, MW = 1
abbrev pub opened : {L : Type 0} → L → Twin L
opened x = record { copies = both x; mr = false; mw = true; named = both false }

-- a change writes copy MW and sets MR to MW
abbrev pub changed : {L : Type 0} → Twin L → L → Twin L
changed c x = record { copies = (with_copy c c.mw x).copies; mr = c.mw; mw = c.mw; named = c.named }

-- abandon writes the before line into copy MW
abbrev pub abandoned : {L : Type 0} → Twin L → L → Twin L
abandoned c x = with_copy c c.mw x

-- the point sets MW to 1 − MR
abbrev pub pointed : {L : Type 0} → Twin L → Twin L
pointed c = record { copies = c.copies; mr = c.mr; mw = not c.mr; named = c.named }

-- the cell with its named bit o set or cleared
abbrev pub with_named : {L : Type 0} → Twin L → Bool → Bool → Twin L
with_named c o b = record { copies = c.copies; mr = c.mr; mw = c.mw; named = with_part c.named o b }

-- Commit sets named bit p mod 2. Giving out yields copy 1 − MW, and answers and clears named bit (p − 1) mod 2.
abbrev pub zigzag : {L : Type 0} → Method L (Twin L)
zigzag = record {
  limit = 1024;
  quiet = true;
  sweeps = true;
  fresh = opened;
  first = λ k b c x. changed c x;
  later = λ k c x. changed c x;
  commit = λ k b c. with_named c k.odd true;
  abandon = λ k b c before. abandoned c before;
  gives = λ k c. record { line = copy c (not c.mw); named = part c.named (not k.odd) };
  given = λ k c. with_named c (not k.odd) false;
  pointed = pointed;
  live = λ c. copy c c.mr;
  named = λ k held c. part c.named k.odd;
  due = λ k held before c. record { line = copy c (not c.mw); named = part c.named (not k.odd) };
}

pub record Sound (k : Clock) (due : Bool) (h : Option Stage) (mr mw : Bool) (other : Bool) : Type 0 where
  -- a line that is held is read from the copy that changes write
  pub reads_written : is_some h ≡ true → mr ≡ mw
  -- a line that is not due is not named for the point before
  pub cleared : due ≡ false → other ≡ false

abbrev pub IsSound : {L : Type 0} → Clock → Bool → Option Stage → L → Twin L → Type 0
IsSound k due h before c = Sound k due h c.mr c.mw (part c.named (not k.odd))
