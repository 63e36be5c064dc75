-- The run of records at the front of bytes: one record more, and its end.
use Rattle.std.proofs.Common.{◌≡◌, ℕ, zero, suc, ◌+◌, ◌-◌, ◌<◌, ◌≤◌, true, List, [], ◌∷◌, ◌++◌, length, map, take, drop, Some, None, Option, sym, refl, ap, ◌∙◌, subst, arith}
use Rattle.std.proofs.ByRecursion.{All-drop}
use Rattle.std.proofs.lemmas.List.{length-drop, length-take, append_assoc, drop_at, drop-drop}
use Rattle.std.specs.List.{AllByRecursion}
use Rattle.lines.specs.Bytes.{Bytes}
use Rattle.records.specs.declared.commands.Command.{Command as Changes}
use Rattle.records.specs.Commands.{command_record}
use Rattle.records.specs.Numbers.{mark_record}
use Rattle.records.specs.Framing.{read}
use Rattle.records.proofs.CommandValues.{command-lawful}
use Rattle.records.proofs.Framed.{found, other_kind, one_reading, bytes-append, bytes-framed, take_split}
use Rattle.records.proofs.OneNumber.{mark-lawful}
use Rattle.logs.specs.declared.entries.Entry.{Entry}
use Rattle.logs.specs.declared.entries.Entry.TheVariants.{Command, Mark}
use Rattle.logs.specs.ByteLaws.{cost_least, length_written}
use Rattle.logs.specs.Logs.{spent}
use Rattle.logs.specs.RecordRuns.{entry_bytes, entry_fits, byte_cost, written, or_mark, read_entry, entries_within, entries_in, LongestRun}
use Rattle.logs.specs.Scans.{with_costs}

-- What was read is as long as its record, and is the only writing of its entry.
record Reading (bs : List ℕ) (e : Entry) (n : ℕ) : Type 0 where
  least : 4 ≤ n
  most : n ≤ length bs
  only : Bytes bs → (entry_fits e ≡ true) × (n ≡ byte_cost e) × (take n bs ≡ entry_bytes e)

reading : (bs : List ℕ) (c : Option (Changes × ℕ)) (m : Option (ℕ × ℕ)) (e : Entry) (n : ℕ) → read command_record bs ≡ c → read mark_record bs ≡ m → or_mark c m ≡ Some (e, n) → Reading bs e n
reading bs None None e n rc rm h = absurd (cc)
reading bs None (Some m) e n rc rm h =
    let same : ◌≡◌ {A = Entry × ℕ} (Mark m.0, m.1) (e, n) = cc in
    let f = found mark_record bs m.0 m.1 rm in
    rw (← ap (λ p. p.0) same, ← ap (λ p. p.1) same) (record { least = f.0; most = f.1; only = λ typed. (one_reading mark_record bs mark-lawful typed (read mark_record bs) refl).only m.0 m.1 rm })
reading bs (Some c) m e n rc rm h =
    let same : ◌≡◌ {A = Entry × ℕ} (Command c.0, c.1) (e, n) = cc in
    let f = found command_record bs c.0 c.1 rc in
    rw (← ap (λ p. p.0) same, ← ap (λ p. p.1) same) (record { least = f.0; most = f.1; only = λ typed. (one_reading command_record bs command-lawful typed (read command_record bs) refl).only c.0 c.1 rc })

was_read : (bs : List ℕ) (e : Entry) (n : ℕ) → read_entry bs ≡ Some (e, n) → Reading bs e n
unfolding read_entry
was_read bs e n h = reading bs (read command_record bs) (read mark_record bs) e n refl refl h

pub size_entry : (bs : List ℕ) (e : Entry) (n : ℕ) → read_entry bs ≡ Some (e, n) → (4 ≤ n) × (n ≤ length bs)
size_entry bs e n h = ((was_read bs e n h).least, (was_read bs e n h).most)

pub entry_only : (bs : List ℕ) (e : Entry) (n : ℕ) → Bytes bs → read_entry bs ≡ Some (e, n) → (entry_fits e ≡ true) × (n ≡ byte_cost e) × (take n bs ≡ entry_bytes e)
entry_only bs e n typed h = (was_read bs e n h).only typed

-- the next entry, or none
next : (k : ℕ) (bs : List ℕ) (o : Option (Entry × ℕ)) → read_entry bs ≡ o
    → entries_within (suc k) bs ≡ elim o as (λ _. List Entry) [ None ↦ [] | Some p ↦ p.0 ∷ entries_within k (drop p.1 bs) ]
next k bs o e = ap (λ (q : Option (Entry × ℕ)). elim q as (λ _. List Entry) [ None ↦ [] | Some p ↦ p.0 ∷ entries_within k (drop p.1 bs) ]) e

-- the number of turns does not matter, if there are no fewer than bytes
turns : (k j : ℕ) (bs : List ℕ) → length bs ≤ k → length bs ≤ j → (o : Option (Entry × ℕ)) → read_entry bs ≡ o → entries_within k bs ≡ entries_within j bs
turns zero zero bs h g o e = refl
turns zero (suc j) bs h g None e = sym (next j bs None e)
turns zero (suc j) bs h g (Some p) e = absurd (omega (arith, (size_entry bs p.0 p.1 e).0, (size_entry bs p.0 p.1 e).1))
turns (suc k) zero bs h g None e = next k bs None e
turns (suc k) zero bs h g (Some p) e = absurd (omega (arith, (size_entry bs p.0 p.1 e).0, (size_entry bs p.0 p.1 e).1))
turns (suc k) (suc j) bs h g None e = next k bs None e ∙ sym (next j bs None e)
turns (suc k) (suc j) bs h g (Some p) e =
    let s = size_entry bs p.0 p.1 e in
    let rest : length (drop p.1 bs) ≡ length bs - p.1 = length-drop p.1 bs in
    next k bs (Some p) e
    ∙ ap (λ es. p.0 ∷ es) (turns k j (drop p.1 bs) (omega (arith, s.0, s.1)) (omega (arith, s.0, s.1)) (read_entry (drop p.1 bs)) refl)
    ∙ sym (next j bs (Some p) e)

pub entries_more : (bs : List ℕ) (e : Entry) (n : ℕ) → read_entry bs ≡ Some (e, n) → entries_in bs ≡ e ∷ entries_in (drop n bs)
unfolding entries_in
entries_more bs e n h =
    let s = size_entry bs e n h in
    let rest : length (drop n bs) ≡ length bs - n = length-drop n bs in
    turns (length bs) (suc (length bs)) bs (omega arith) (omega arith) (Some (e, n)) h
    ∙ next (length bs) bs (Some (e, n)) h
    ∙ ap (λ es. e ∷ es) (turns (length bs) (length (drop n bs)) (drop n bs) (omega arith) (omega arith) (read_entry (drop n bs)) refl)

pub entries_none : (bs : List ℕ) → read_entry bs ≡ None → entries_in bs ≡ []
unfolding entries_in
entries_none bs h = turns (length bs) (suc (length bs)) bs (omega arith) (omega arith) None h ∙ next (length bs) bs None h

-- an entry reads back from its record, whatever bytes follow
command_back : (c : Changes) (rest : List ℕ) → command_record.fits c ≡ true → Bytes rest → read_entry (entry_bytes (Command c) ++ rest) ≡ Some (Command c, byte_cost (Command c))
unfolding read_entry
command_back c rest fits typed =
    let bs = entry_bytes (Command c) ++ rest in
    let bytes = bytes-append (entry_bytes (Command c)) rest (bytes-framed 4 (command_record.body c) (command-lawful.bytes c)) typed in
    let back = (one_reading command_record bs command-lawful bytes (read command_record bs) refl).back c rest fits refl in
    rw back

mark_back : (point : ℕ) (rest : List ℕ) → mark_record.fits point ≡ true → Bytes rest → read_entry (entry_bytes (Mark point) ++ rest) ≡ Some (Mark point, byte_cost (Mark point))
unfolding read_entry
mark_back point rest fits typed =
    let bs = entry_bytes (Mark point) ++ rest in
    let bytes = bytes-append (entry_bytes (Mark point)) rest (bytes-framed 5 (mark_record.body point) (mark-lawful.bytes point)) typed in
    let back = (one_reading mark_record bs mark-lawful bytes (read mark_record bs) refl).back point rest fits refl in
    rw (other_kind mark_record command_record bs point (byte_cost (Mark point)) back (λ e. omega arith) (read command_record bs) refl, back)

pub entry_back : (e : Entry) (rest : List ℕ) → entry_fits e ≡ true → Bytes rest → read_entry (entry_bytes e ++ rest) ≡ Some (e, byte_cost e)
entry_back (Command c) rest fits typed = command_back c rest fits typed
entry_back (Mark point) rest fits typed = mark_back point rest fits typed

pub bytes_entry : (e : Entry) → Bytes (entry_bytes e)
bytes_entry (Command c) = bytes-framed 4 (command_record.body c) (command-lawful.bytes c)
bytes_entry (Mark point) = bytes-framed 5 (mark_record.body point) (mark-lawful.bytes point)

pub bytes_written : (es : List Entry) → Bytes (written es)
bytes_written [] = tt
bytes_written (e ∷ es) = bytes-append (entry_bytes e) (written es) (bytes_entry e) (bytes_written es)

-- records that are written are a run
pub entries_written : (es : List Entry) (rest : List ℕ) → AllByRecursion (λ e. entry_fits e ≡ true) es → Bytes rest → entries_in (written es ++ rest) ≡ es ++ entries_in rest
entries_written [] rest fits typed = refl
entries_written (e ∷ es) rest fits typed =
    let behind = written es ++ rest in
    let back = entry_back e behind fits.0 (bytes-append (written es) rest (bytes_written es) typed) in
    rw (append_assoc (entry_bytes e) (written es) rest)
    (entries_more (entry_bytes e ++ behind) e (byte_cost e) back
    ∙ rw (drop_at (entry_bytes e) behind (byte_cost e) refl) (ap (λ x. e ∷ x) (entries_written es rest fits.1 typed)))

-- the entries in bytes are their longest run
run_within : (k : ℕ) (bs : List ℕ) → length bs ≤ k → Bytes bs → (o : Option (Entry × ℕ)) → read_entry bs ≡ o → LongestRun bs (entries_in bs)
run_within k bs h typed None e =
    subst (λ es. LongestRun bs es) (sym (entries_none bs e)) (record { fit = tt; front = refl; ended = e })
run_within zero bs h typed (Some p) e = absurd (omega (arith, (size_entry bs p.0 p.1 e).0, (size_entry bs p.0 p.1 e).1))
run_within (suc k) bs h typed (Some p) e =
    let s = size_entry bs p.0 p.1 e in
    let only = entry_only bs p.0 p.1 typed e in
    let rest = drop p.1 bs in
    let shorter : length rest ≤ k = rw (length-drop p.1 bs) (omega (arith, s.0, s.1)) in
    let behind = run_within k rest shorter (All-drop (λ b. b < 256) p.1 bs typed) (read_entry rest) refl in
    let size : p.1 ≡ byte_cost p.0 = only.1 in
    let first : take (byte_cost p.0) bs ≡ entry_bytes p.0 = rw size at only.2 in
    subst (λ es. LongestRun bs es) (sym (entries_more bs p.0 p.1 e)) (record {
      fit = (only.0, behind.fit);
      front = sym (take_split (byte_cost p.0) (spent byte_cost (entries_in rest)) bs) ∙ rw (first, ← size) (ap (λ x. entry_bytes p.0 ++ x) behind.front);
      ended = rw (← drop-drop (spent byte_cost (entries_in rest)) (byte_cost p.0) bs, ← size) behind.ended;
    })

pub run : (bs : List ℕ) → Bytes bs → LongestRun bs (entries_in bs)
run bs typed = run_within (length bs) bs (omega arith) typed (read_entry bs) refl

-- the first record and its length, and those behind it
pub next_record : (bs : List ℕ) (e : Entry) (n : ℕ) → n ≡ byte_cost e → Some (e, n) ≡ read_entry bs → with_costs (entries_in bs) ≡ (e, n) ∷ with_costs (entries_in (drop n bs))
next_record bs e n cost h = rw (entries_more bs e n (sym h)) (ap (λ k. (e, k) ∷ with_costs (entries_in (drop n bs))) (sym cost))

-- no more records than bytes
pub entries_few : (es : List Entry) → length es ≤ spent byte_cost es
entries_few [] = omega arith
entries_few (e ∷ es) = omega (arith, cost_least e, entries_few es)

pub run_short : (bs : List ℕ) (es : List Entry) → LongestRun bs es → (length es ≤ spent byte_cost es) × (spent byte_cost es ≤ length bs)
run_short bs es found = (entries_few es, omega (arith, length-take (spent byte_cost es) bs, ap length found.front, length_written es))

first_ones : (es : List Entry) → map (λ p. p.0) (with_costs es) ≡ es
first_ones [] = refl
first_ones (e ∷ es) = ap (λ xs. e ∷ xs) (first_ones es)

-- one record passed
pub one_less : (es fs : List Entry) (e : Entry) (n : ℕ) → with_costs es ≡ (e, n) ∷ with_costs fs → (length es ≡ suc (length fs)) × (spent byte_cost es ≡ n + spent byte_cost fs)
one_less es fs e n h =
    let same : es ≡ e ∷ fs = sym (first_ones es) ∙ ap (map (λ p. p.0)) h ∙ ap (λ xs. e ∷ xs) (first_ones fs) in
    let cost : byte_cost e ≡ n = let k = rw same at h in let p : ◌≡◌ {A = Entry × ℕ} (e, byte_cost e) (e, n) = cc in ap (λ q. q.1) p in
    (ap length same, ap (spent byte_cost) same ∙ omega arith)
