-- What a log means.
--
--   Log               its entries, oldest first, and its capacity
--   spent cost es     what the entries es cost together
--   room cost l e     whether the log l has room for the entry e
--   append cost l e   the log after e is appended; where there is no room, l itself
--   verdict cost l e  the answer to that: accepted, or full, with the number of entries
--   emptied l         the log after all its entries are dropped
--   Lawful cost m     what every make of log owes: see its fields
--   Untouched r s t   if r is a refusal, t is s: nothing moved
use Rattle.std.specs.Prelude.{◌≡◌, ℕ, ◌+◌, ◌≤◌, Bool, cond, List, [], ◌∷◌, ◌++◌, length, Ok, Err, Result, nat_le}
use Rattle.logs.specs.declared.entries.Entry.{Entry}
use Rattle.logs.specs.declared.faults.LogFault.{LogFault}
use Rattle.logs.specs.declared.faults.LogFault.TheVariants.{Full}

pub record Log : Type 0 where
  pub entries : List Entry
  pub capacity : ℕ

abbrev pub spent : (Entry → ℕ) → List Entry → ℕ
spent cost [] = 0
spent cost (e ∷ es) = cost e + spent cost es

abbrev pub room : (Entry → ℕ) → Log → Entry → Bool
room cost l e = nat_le (spent cost l.entries + cost e) l.capacity

abbrev pub append : (Entry → ℕ) → Log → Entry → Log
append cost l e = record { entries = cond (room cost l e) (l.entries ++ (e ∷ [])) l.entries; capacity = l.capacity }

abbrev pub verdict : (Entry → ℕ) → Log → Entry → Result (Unit {0}) LogFault
verdict cost l e = cond (room cost l e) (Ok tt) (Err (Full (length l.entries)))

abbrev pub emptied : Log → Log
emptied l = record { entries = []; capacity = l.capacity }

abbrev pub Untouched : {A B S : Type 0} → Result A B → S → S → Type 0
Untouched (Ok a) before after = Unit {0}
Untouched (Err e) before after = after ≡ before

pub record Lawful {S : Type 0} (cost : Entry → ℕ) (meaning : S → Log) : Type 0 where
  -- every entry costs something
  pub costly : (e : Entry) → 1 ≤ cost e
  -- a capacity is at most 65,536
  pub bounded : (s : S) → (meaning s).capacity ≤ 65536
  -- a log never holds more than its capacity
  pub within : (s : S) → spent cost (meaning s).entries ≤ (meaning s).capacity
