-- One entry appended to a byte log.
use Rattle.std.proofs.Common.{◌≡◌, ℕ, ◌+◌, ◌-◌, ◌≤◌, true, false, List, [], ◌∷◌, ◌++◌, length, take, drop, Some, None, Ok, Err, sym, ap, ◌∙◌, inl, inr, arith}
use borrow.Rule.Slice.PartMut.{put_mid, put_same}
use mathlib.Core.HLevel.{is_prop→PathP}
use mathlib.Core.List.{is_set}
use native.Mathlib.Bridge.{le_prop}
use native.Mathlib.Nat.{ℕ_set}
use Rattle.std.proofs.lemmas.List.{append_assoc, drop-append-le, drop-drop, length-append, length-take-le, length-drop, length_push, take-append-drop}
use Rattle.std.proofs.lemmas.Bool.{cases_lt, le-leb, lt-leb}
use Rattle.lines.specs.Bytes.{overwritten, put, room}
use Rattle.lines.proofs.Payloads.{put_fits, put-short}
use Rattle.logs.specs.declared.byte_log.ByteLog.{ByteLog}
use Rattle.logs.specs.declared.entries.Entry.{Entry}
use Rattle.logs.specs.declared.faults.LogFault.TheVariants.{Full}
use Rattle.logs.specs.ByteLogs.{byte_capacity, byte_log, log_in}
use Rattle.logs.specs.ByteLaws.{used_spent}
use Rattle.logs.specs.Logs as logs
use Rattle.logs.specs.Logs.{append, verdict}
use Rattle.logs.specs.RecordRuns.{entry_bytes, entry_fits, byte_cost, written, entries_in}
use Rattle.logs.proofs.ByteRuns.{appended_bytes, appended_entries}

-- two logs with the same memory, the same length and the same count are the same
pub same_log : (a b : ByteLog) → a.memory ≡ b.memory → a.used ≡ b.used → a.count ≡ b.count → a ≡ b
same_log a b memory used count = λ i. record {
  memory = memory i;
  used = used i;
  count = count i;
  inside = is_prop→PathP (λ j. used j ≤ length (memory j).now) (λ j. le_prop) a.inside b.inside i;
  few = is_prop→PathP (λ j. used j ≤ 65536) (λ j. le_prop) a.few b.few i;
  whole = is_prop→PathP (λ j. written (entries_in (take (used j) (memory j).now)) ≡ take (used j) (memory j).now) (λ j. is_set ℕ_set (written (entries_in (take (used j) (memory j).now))) (take (used j) (memory j).now)) a.whole b.whole i;
  counted = is_prop→PathP (λ j. count j ≡ length (entries_in (take (used j) (memory j).now))) (λ j. ℕ_set (count j) (length (entries_in (take (used j) (memory j).now)))) a.counted b.counted i;
}

-- An entry e that was written into the memory m behind what the log l uses: `out` is what the part that was lent holds now, `held` the whole.
module _ (l : ByteLog) (e : Entry) (end : ℕ) (cap : end ≡ byte_capacity l.memory.now) (out : List ℕ) where
  abbrev m : List ℕ
  m = l.memory.now

  abbrev part : List ℕ
  part = take (end - l.used) (drop l.used m)

  abbrev held : List ℕ
  held = put_mid l.used (end - l.used) m out

  long : length part ≡ end - l.used
  long = length-take-le (end - l.used) (drop l.used m) (omega (arith, length-drop l.used m))

  pub record Refused : Type 0 where
    pub answer : Err (Full l.count) ≡ verdict byte_cost (byte_log l) e
    pub state : log_in held l.used ≡ append byte_cost (byte_log l) e
    pub memory : held ≡ m

  -- where the record does not fit, nothing is written
  pub refused : None ≡ room (entry_bytes e) part → out ≡ put (entry_bytes e) part → Refused
  refused answer after = elim (cases_lt (length part) (byte_cost e)) [
    | inl short ↦
        let none : logs.room byte_cost (byte_log l) e ≡ false = lt-leb _ _ (omega (arith, used_spent l, long, l.inside, l.few)) in
        let same : held ≡ m = rw (after, (put-short (entry_bytes e) part short).1) (put_same l.used (end - l.used) m) in
        record { answer = rw (none, ← l.counted); state = rw (none, same); memory = same }
    | inr fits ↦ let e : None ≡ Some _ = answer ∙ (put_fits (entry_bytes e) part fits).0 in absurd (cc)
  ]

  pub record Accepted (n : ℕ) : Type 0 where
    pub inside : l.used + n ≤ length held
    pub few : l.used + n ≤ 65536
    pub whole : written (entries_in (take (l.used + n) held)) ≡ take (l.used + n) held
    pub counted : l.count + 1 ≡ length (entries_in (take (l.used + n) held))
    pub answer : Ok tt ≡ verdict byte_cost (byte_log l) e
    pub state : log_in held (l.used + n) ≡ append byte_cost (byte_log l) e
    pub memory : held ≡ overwritten m l.used (entry_bytes e)

  -- else it stands behind what was used, and the log is again sound
  pub accepted : (n : ℕ) → Some n ≡ room (entry_bytes e) part → out ≡ put (entry_bytes e) part → entry_fits e ≡ true → Accepted n
  accepted n answer after fit = elim (cases_lt (length part) (byte_cost e)) [
    | inl short ↦ let e : Some n ≡ None = answer ∙ (put-short (entry_bytes e) part short).0 in absurd (cc)
    | inr fits ↦
        let bs = entry_bytes e in
        let rest = drop l.used m in
        let told : Some n ≡ Some (byte_cost e) = answer ∙ (put_fits bs part fits).0 in
        let size : n ≡ byte_cost e = cc in
        let behind : drop (length bs) part ++ drop (end - l.used) rest ≡ drop (length bs) rest = rw (← drop-append-le (length bs) part (drop (end - l.used) rest) fits, take-append-drop (end - l.used) rest) in
        let memory : held ≡ overwritten m l.used bs = rw (after, (put_fits bs part fits).1, append_assoc bs (drop (length bs) part) (drop (end - l.used) rest), behind, drop-drop (length bs) l.used m) in
        let same_length : length held ≡ length m = ap length memory ∙ rw (length-append, length-append, length-take-le l.used m l.inside, length-drop) (omega (arith, long, l.inside)) in
        let entries : entries_in (take (l.used + n) held) ≡ (byte_log l).entries ++ (e ∷ []) = rw (size, memory) (appended_entries l e fit) in
        let some : logs.room byte_cost (byte_log l) e ≡ true = le-leb _ _ (omega (arith, used_spent l, long, l.inside, l.few)) in
        record {
          inside = omega (arith, same_length, long, l.inside);
          few = omega (arith, long, l.inside, l.few);
          whole = rw entries (sym (rw (size, memory) (appended_bytes l e fit)));
          counted = sym (rw entries (length_push (byte_log l).entries e ∙ omega (arith, l.counted)));
          answer = rw some;
          state = rw (some, entries, same_length);
          memory = memory;
        }
  ]
