-- The bytes that a byte log uses: a run of whole records at the front of its memory.
use Rattle.std.proofs.Common.{◌≡◌, ℕ, ◌+◌, ◌≤◌, min, true, List, [], ◌∷◌, ◌++◌, length, take, drop, sym, refl, ap, ◌∙◌, arith}
use Rattle.std.proofs.ByRecursion.{All-push}
use Rattle.std.proofs.lemmas.List.{append-nil, append_assoc, length-append, length-take, length-take-le, take_at, take-take, flat_map_more}
use Rattle.std.specs.List.{AllByRecursion}
use Rattle.logs.specs.declared.byte_log.ByteLog.{ByteLog}
use Rattle.logs.specs.declared.entries.Entry.{Entry}
use Rattle.lines.specs.Bytes.{overwritten}
use Rattle.logs.specs.ByteLogs.{byte_log}
use Rattle.logs.specs.Logs.{spent}
use Rattle.logs.specs.ByteLaws.{length_written}
use Rattle.logs.specs.RecordRuns.{entry_bytes, entry_fits, byte_cost, written, entries_in, LongestRun}
use Rattle.logs.proofs.Runs.{entries_written, bytes_written, run}

pub nothing_in : entries_in [] ≡ []
unfolding entries_in
nothing_in = refl

-- records that are written, and nothing else, are all a run
pub entries_of_written : (es : List Entry) → AllByRecursion (λ e. entry_fits e ≡ true) es → entries_in (written es) ≡ es
entries_of_written es fits = rw (append-nil (written es)) at (entries_written es [] fits tt) ∙ rw nothing_in (append-nil es)

-- the run of n bytes at the front of the first u bytes of memory
pub record Front (m : List ℕ) (u n : ℕ) (es : List Entry) : Type 0 where
  pub within : n ≤ u
  pub again : entries_in (take n m) ≡ es
  pub whole : written (entries_in (take n m)) ≡ take n m

pub front : (m : List ℕ) (u n : ℕ) (bs : List ℕ) → bs ≡ take u m → LongestRun bs (entries_in bs) → n ≡ spent byte_cost (entries_in bs) → Front m u n (entries_in bs)
front m u n bs is found size =
    let es = entries_in bs in
    let long : length bs ≡ min u (length m) = ap length is ∙ length-take u m in
    let inside : min n (length bs) ≡ n = sym (length-take n bs) ∙ rw size (ap length found.front ∙ length_written es) in
    let small : n ≤ u = omega arith in
    let same : take n m ≡ written es = sym (take-take n u m small) ∙ rw (← is, size) found.front in
    let again : entries_in (take n m) ≡ es = rw same (entries_of_written es found.fit) in
    record { within = small; again = again; whole = rw again (sym same) }

-- a log's used bytes
module _ (l : ByteLog) where
  pub fit : AllByRecursion (λ e. entry_fits e ≡ true) (byte_log l).entries
  fit = (run (take l.used l.memory.now) (rw (← l.whole) (bytes_written (byte_log l).entries))).fit

  -- one record more behind them
  module _ (e : Entry) (fits : entry_fits e ≡ true) where
    pub appended_bytes : take (l.used + byte_cost e) (overwritten l.memory.now l.used (entry_bytes e)) ≡ written ((byte_log l).entries ++ (e ∷ []))
    appended_bytes =
        let bs = entry_bytes e in
        let used = take l.used l.memory.now in
        let rest = drop (l.used + length bs) l.memory.now in
        let long : length (used ++ bs) ≡ l.used + length bs = rw (length-append, length-take-le l.used l.memory.now l.inside) in
        rw (← append_assoc used bs rest, take_at (used ++ bs) rest (l.used + length bs) long) (sym (sym (flat_map_more entry_bytes [] (byte_log l).entries e) ∙ rw l.whole))

    pub appended_entries : entries_in (take (l.used + byte_cost e) (overwritten l.memory.now l.used (entry_bytes e))) ≡ (byte_log l).entries ++ (e ∷ [])
    appended_entries = rw appended_bytes (entries_of_written ((byte_log l).entries ++ (e ∷ [])) (All-push (λ x. entry_fits x ≡ true) (byte_log l).entries e fit fits))
