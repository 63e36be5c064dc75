-- The entry log: whole entries in memory, one behind the other, each at a cost of 1.
use Rattle.std.specs.Prelude.{◌≡◌, ℕ, min, List, [], ◌∷◌, length, take, refl}
use Rattle.std.proofs.Common.{arith}
use Rattle.std.proofs.lemmas.List.{length-take-le}
use Rattle.logs.specs.declared.entries.Entry.{Entry}
use Rattle.logs.specs.declared.entry_log.EntryLog.{EntryLog}
use Rattle.logs.specs.Logs.{Log, Lawful, spent}

abbrev pub one_each : Entry → ℕ
one_each e = 1

-- the capacity is what the memory holds, at most 4,096 entries
abbrev pub log_over : List Entry → List Entry → Log
log_over memory entries = record { entries = entries; capacity = min (length memory) 4096 }

abbrev pub entry_log : EntryLog → Log
entry_log l = log_over l.memory.now (take l.count l.memory.now)

-- a log opens empty
abbrev pub opened : List Entry → Log
opened memory = log_over memory []

-- what it costs is how many entries there are
pub spent_one : (es : List Entry) → spent one_each es ≡ length es
spent_one [] = refl
spent_one (e ∷ es) = omega (arith, spent_one es)

pub entry_log_lawful : Lawful one_each entry_log
entry_log_lawful = record {
  costly = λ e. omega arith;
  bounded = λ l. omega arith;
  within = λ l. rw (spent_one (take l.count l.memory.now), length-take-le l.count l.memory.now l.inside) (omega (arith, l.inside, l.few));
}
