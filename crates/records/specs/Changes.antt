-- Changes as bytes.
--
--   no_change          the change that fills the slots of a command that hold none
--   same_change c d    whether the numbers of two changes are the same
--   change_bytes c     line number (2 bytes), change kind (1), amount (4)
--   change_in bs       the change that bs begins with
--   changes_in n bs    the n changes that bs begins with
--   changes_bytes cs   the changes, one behind the other
--   changes_of_bytes bs   the changes that bs is the bytes of: none, where seven does not divide its length, or where they are more than four
--   change_fits c      whether its numbers fit their bytes
--   changes_fit cs     whether those of each change do
use Rattle.std.specs.Prelude.{ℕ, zero, suc, ◌/◌, ◌%◌, ◌^◌, Bool, true, cond, ◌&&◌, List, [], ◌∷◌, ◌++◌, length, drop, Some, None, Option, ◌==◌, nat_eq, nat_le, nat_lt}
use Rattle.std.specs.List.{flat_map}
use Rattle.std.specs.Cmp.{IsEquivalence, and_equiv, on_equiv, nat_eq_equiv}
use Rattle.std.specs.Ordering.{on, eq_of_both}
use Rattle.lines.specs.Bytes.{le}
use Rattle.lines.specs.declared.changes.Change.{Change}
use Rattle.records.specs.Numbers.{field}

abbrev pub no_change : Change
no_change = record { line = 0; kind = 0; amount = 0 }

abbrev pub same_change : Change → Change → Bool
same_change = eq_of_both (eq_of_both (on (λ c. c.line) nat_eq) (on (λ c. c.kind) nat_eq)) (on (λ c. c.amount) nat_eq)

-- that test is an equivalence
pub same_change_equiv : IsEquivalence same_change
same_change_equiv = and_equiv (and_equiv (on_equiv (λ c. c.line) nat_eq_equiv) (on_equiv (λ c. c.kind) nat_eq_equiv)) (on_equiv (λ c. c.amount) nat_eq_equiv)

unfoldable pub change_bytes : Change → List ℕ
change_bytes c = le 2 c.line ++ (le 1 c.kind ++ le 4 c.amount)

abbrev pub change_in : List ℕ → Change
change_in bs = record { line = field 0 2 bs; kind = field 2 1 bs; amount = field 3 4 bs }

abbrev pub changes_in : ℕ → List ℕ → List Change
changes_in zero bs = []
changes_in (suc n) bs = change_in bs ∷ changes_in n (drop 7 bs)

abbrev pub changes_bytes : List Change → List ℕ
changes_bytes cs = flat_map change_bytes cs

unfoldable pub changes_of_bytes : List ℕ → Option (List Change)
changes_of_bytes bs = cond (nat_le (length bs) 28 && length bs % 7 == 0) (Some (changes_in (length bs / 7) bs)) None

abbrev pub change_fits : Change → Bool
change_fits c = nat_lt c.line (2 ^ 16) && (nat_lt c.kind 256 && nat_lt c.amount (2 ^ 32))

abbrev pub changes_fit : List Change → Bool
changes_fit [] = true
changes_fit (c ∷ cs) = change_fits c && changes_fit cs
