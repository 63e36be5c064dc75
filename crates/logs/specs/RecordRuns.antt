-- Entries as records, and runs of them one behind the other.
--
--   entry_bytes e      the record of an entry
--   entry_fits e       whether its numbers fit their bytes
--   read_entry bs      the entry whose record bs begins with, and that record's length, if any
--   entries_in bs      the entries of the longest run of whole lawful log records at the front of bs
--   byte_cost e        how many bytes the record of e has
--   written es         the records of es, one behind the other
--   LongestRun bs es   es is that run, in words: see its fields
use Rattle.std.specs.Prelude.{◌≡◌, ℕ, zero, suc, Bool, true, List, [], ◌∷◌, length, take, drop, Some, None, Option}
use Rattle.std.specs.List.{flat_map, AllByRecursion}
use Rattle.records.specs.declared.commands.Command.{Command as Changes}
use Rattle.records.specs.Commands.{command_record}
use Rattle.records.specs.Framing.{bytes_of, read}
use Rattle.records.specs.Numbers.{mark_record}
use Rattle.logs.specs.declared.entries.Entry.{Entry}
use Rattle.logs.specs.declared.entries.Entry.TheVariants.{Command, Mark}
use Rattle.logs.specs.Logs.{spent}

abbrev pub entry_bytes : Entry → List ℕ
entry_bytes (Command c) = bytes_of command_record c
entry_bytes (Mark point) = bytes_of mark_record point

abbrev pub entry_fits : Entry → Bool
entry_fits (Command c) = command_record.fits c
entry_fits (Mark point) = mark_record.fits point

abbrev pub or_mark : Option (Changes × ℕ) → Option (ℕ × ℕ) → Option (Entry × ℕ)
or_mark (Some c) m = Some (Command c.0, c.1)
or_mark None (Some m) = Some (Mark m.0, m.1)
or_mark None None = None

unfoldable pub read_entry : List ℕ → Option (Entry × ℕ)
read_entry bs = or_mark (read command_record bs) (read mark_record bs)

-- at most so many entries
abbrev pub entries_within : ℕ → List ℕ → List Entry
entries_within zero bs = []
entries_within (suc k) bs = elim (read_entry bs) [ None ↦ [] | Some p ↦ p.0 ∷ entries_within k (drop p.1 bs) ]

-- no record is empty, so there are no more entries than bytes
unfoldable pub entries_in : List ℕ → List Entry
entries_in bs = entries_within (length bs) bs

abbrev pub byte_cost : Entry → ℕ
byte_cost e = length (entry_bytes e)

abbrev pub written : List Entry → List ℕ
written es = flat_map entry_bytes es

pub record LongestRun (bs : List ℕ) (es : List Entry) : Type 0 where
  -- the numbers of es fit their bytes
  pub fit : AllByRecursion (λ e. entry_fits e ≡ true) es
  -- the records of es stand at the front of bs
  pub front : take (spent byte_cost es) bs ≡ written es
  -- and no lawful log record stands behind them
  pub ended : read_entry (drop (spent byte_cost es) bs) ≡ None
