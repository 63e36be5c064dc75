-- What a pass over records has left.
--
--   with_costs es     the entries es, each with the length of its record
--   records_left r    those of the longest run at the front of the bytes that are left
use Rattle.std.specs.Prelude.{ℕ, List, map}
use Rattle.logs.specs.declared.entries.Entry.{Entry}
use Rattle.logs.specs.declared.scans.Records.{Records}
use Rattle.logs.specs.RecordRuns.{byte_cost, entries_in}

abbrev pub with_costs : List Entry → List (Entry × ℕ)
with_costs es = map (λ e. (e, byte_cost e)) es

abbrev pub records_left : Records → List (Entry × ℕ)
records_left r = with_costs (entries_in r.0.now)
