-- The byte log: records of entries in memory, one behind the other, each at the cost of its length.
--
--   byte_capacity m   the number of bytes of the memory m, at most 65,536
--   byte_log l        what a byte log means: the entries of the run in its used bytes
--   opened m u        the log over m of which the first u bytes may hold records; u is cut to the capacity
--   fitting u es      the entries of es whose records lie wholly in the first u bytes of them all
--   checked m u       how many entries those u bytes hold, or the offset of the first record that is cut or unlawful
use Rattle.std.specs.Prelude.{ℕ, ◌-◌, min, cond, List, [], ◌∷◌, length, take, Ok, Err, Result, ◌==◌, nat_le}
use Rattle.logs.specs.declared.byte_log.ByteLog.{ByteLog}
use Rattle.logs.specs.declared.entries.Entry.{Entry}
use Rattle.logs.specs.declared.faults.LogFault.{LogFault}
use Rattle.logs.specs.declared.faults.LogFault.TheVariants.{Unlawful}
use Rattle.logs.specs.Logs.{Log, spent}
use Rattle.logs.specs.RecordRuns.{byte_cost, entries_in}

abbrev pub byte_capacity : List ℕ → ℕ
byte_capacity m = min (length m) 65536

abbrev pub log_in : List ℕ → ℕ → Log
log_in m used = record { entries = entries_in (take used m); capacity = byte_capacity m }

abbrev pub byte_log : ByteLog → Log
byte_log l = log_in l.memory.now l.used

abbrev pub opened : List ℕ → ℕ → Log
opened m u = log_in m (min u (byte_capacity m))

abbrev pub checked_bytes : List ℕ → Result ℕ LogFault
checked_bytes bs = cond (spent byte_cost (entries_in bs) == length bs) (Ok (length (entries_in bs))) (Err (Unlawful (spent byte_cost (entries_in bs))))

abbrev pub checked : List ℕ → ℕ → Result ℕ LogFault
checked m u = checked_bytes (take (min u (byte_capacity m)) m)

abbrev pub fitting : ℕ → List Entry → List Entry
fitting u [] = []
fitting u (e ∷ es) = cond (nat_le (byte_cost e) u) (e ∷ fitting (u - byte_cost e) es) []
