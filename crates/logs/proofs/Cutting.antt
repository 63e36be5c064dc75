-- Records cut at any byte: those that are whole are read, and the one that is cut is not.
use Rattle.std.proofs.Common.{◌≡◌, ℕ, ◌+◌, zero, suc, ◌-◌, ◌<◌, ◌≤◌, true, List, [], ◌∷◌, ◌++◌, take, drop, Some, None, Option, sym, refl, ap, ◌∙◌, inl, inr, arith}
use Rattle.std.proofs.ByRecursion.{All-take, All-drop}
use Rattle.std.proofs.Math.Seq.{take-append-add}
use Rattle.std.proofs.lemmas.List.{length-take, take-take, take-append-drop, drop_at}
use Rattle.std.proofs.lemmas.Bool.{cases_lt, le-leb, lt-leb}
use Rattle.std.specs.List.{AllByRecursion}
use Rattle.lines.specs.Bytes.{Bytes}
use Rattle.records.proofs.Framed.{bytes-append}
use Rattle.logs.specs.declared.entries.Entry.{Entry}
use Rattle.logs.specs.ByteLogs.{fitting}
use Rattle.logs.specs.RecordRuns.{entry_bytes, entry_fits, byte_cost, written, read_entry, entries_in}
use Rattle.logs.proofs.ByteRuns.{nothing_in}
use Rattle.logs.proofs.Runs.{size_entry, entries_more, entries_none, entry_back, entry_only, bytes_entry, bytes_written}

-- a record that is cut is not read
cut_none : (e : Entry) (rest : List ℕ) (u : ℕ) → entry_fits e ≡ true → Bytes rest → u < byte_cost e → (o : Option (Entry × ℕ)) → read_entry (take u (entry_bytes e ++ rest)) ≡ o → o ≡ None
cut_none e rest u fits typed h None r = refl
cut_none e rest u fits typed h (Some p) r =
    let whole = entry_bytes e ++ rest in
    let bytes = bytes-append (entry_bytes e) rest (bytes_entry e) typed in
    let part = take u whole in
    let size = size_entry part p.0 p.1 r in
    let only = entry_only part p.0 p.1 (All-take (λ b. b < 256) u whole bytes) r in
    let inside : p.1 ≤ u = omega (arith, size.1, length-take u whole) in
    let front : take p.1 whole ≡ entry_bytes p.0 = sym (take-take p.1 u whole inside) ∙ only.2 in
    let split : entry_bytes p.0 ++ drop p.1 whole ≡ whole = rw front at (take-append-drop p.1 whole) in
    let other = entry_back p.0 (drop p.1 whole) only.0 (All-drop (λ b. b < 256) p.1 whole bytes) in
    let both : ◌≡◌ {A = Option (Entry × ℕ)} (Some (e, byte_cost e)) (Some (p.0, byte_cost p.0)) = sym (entry_back e rest fits typed) ∙ rw split at other in
    let same : ◌≡◌ {A = Entry × ℕ} (e, byte_cost e) (p.0, byte_cost p.0) = cc in
    let long : byte_cost e ≡ byte_cost p.0 = ap (λ q. q.1) same in
    absurd (omega (arith, only.1))

pub entries_cut : (es : List Entry) (u : ℕ) → AllByRecursion (λ e. entry_fits e ≡ true) es → entries_in (take u (written es)) ≡ fitting u es
entries_cut [] zero fits = nothing_in
entries_cut [] (suc u) fits = nothing_in
entries_cut (e ∷ es) u fits = elim (cases_lt u (byte_cost e)) [
  | inl short ↦
      let none = cut_none e (written es) u fits.0 (bytes_written es) short (read_entry (take u (entry_bytes e ++ written es))) refl in
      entries_none (take u (entry_bytes e ++ written es)) none ∙ rw (lt-leb (byte_cost e) u short)
  | inr long ↦
      let k = u - byte_cost e in
      let rest = take k (written es) in
      let split : byte_cost e + k ≡ u = omega arith in
      let front : take u (entry_bytes e ++ written es) ≡ entry_bytes e ++ rest = rw split at (take-append-add (entry_bytes e) (written es) k) in
      let back = entry_back e rest fits.0 (All-take (λ b. b < 256) k (written es) (bytes_written es)) in
      rw (front, le-leb (byte_cost e) u long)
      (entries_more (entry_bytes e ++ rest) e (byte_cost e) back
      ∙ rw (drop_at (entry_bytes e) rest (byte_cost e) refl) (ap (λ xs. e ∷ xs) (entries_cut es k fits.1)))
]
