-- The entry at a place in a log's records.
use Rattle.std.proofs.Common.{◌≡◌, ℕ, ◌≤◌, List, length, Some, None, Option, refl, ◌∙◌, sym}
use Rattle.std.proofs.lemmas.Iterator.Consumers.{nth_from_yields_List, YieldsList-from_first}
use Rattle.std.proofs.lemmas.Iterator.Adapters.{option_map_id}
use Rattle.std.proofs.lemmas.Option.{slice_get-map}
use Rattle.std.specs.Iterator.{YieldsFirst, YieldsThen}
use Rattle.std.specs.List.{slice_get}
use Rattle.std.specs.Option.{MatchOption, option_map}
use Rattle.logs.specs.declared.entries.Entry.{Entry}
use Rattle.logs.specs.declared.scans.Records.{Records}
use Rattle.logs.specs.RecordRuns.{byte_cost, entries_in}
use Rattle.logs.specs.Scans.{records_left, with_costs}

abbrev pub with_cost : Entry → Entry × ℕ
with_cost e = (e, byte_cost e)

abbrev pub entry_of : Entry × ℕ → Entry
entry_of p = p.0

same_entry : (o : Option Entry) → option_map entry_of (option_map with_cost o) ≡ o
same_entry None = refl
same_entry (Some e) = refl

-- what `nth` gives
pub nth_entry : (r : Option (Entry × ℕ)) (s t : Records) (i : ℕ)
    → ((xs : List (Entry × ℕ)) × YieldsThen (YieldsFirst records_left) s xs r t × MatchOption r (length xs ≤ i) (λ _. length xs ≡ i))
    → option_map entry_of r ≡ slice_get (entries_in s.0.now) i
nth_entry r s t i ran =
    let es = entries_in s.0.now in
    let left = nth_from_yields_List {v = λ x. x} r t i ran (YieldsList-from_first (λ x. x) records_left (records_left s) refl) in
    let there : r ≡ slice_get (with_costs es) i = sym (option_map_id r) ∙ left in
    rw (there, slice_get-map with_cost es i) (same_entry (slice_get es i))
