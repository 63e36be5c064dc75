-- A record at the front of bytes, and what stands behind it.
use Rattle.std.proofs.Common.{◌≡◌, ℕ, ◌<◌, true, List, ◌++◌, length, drop, Some, sym, refl, ap, ◌∙◌}
use Rattle.std.proofs.ByRecursion.{All-drop}
use Rattle.std.proofs.lemmas.List.{take-append-drop, drop_at}
use Rattle.lines.specs.Bytes.{Bytes}
use Rattle.records.specs.Framing.{Layout, LawfulLayout, bytes_of, read}
use Rattle.records.proofs.Framed.{one_reading}

pub bytes_behind : (n : ℕ) (bs : List ℕ) → Bytes bs → Bytes (drop n bs)
bytes_behind n bs typed = All-drop (λ b. b < 256) n bs typed

module _ {V : Type 0} (l : Layout V) (lawful : LawfulLayout l) (bs : List ℕ) (typed : Bytes bs) where
  -- a record that was written is read
  pub written_read : (v : V) (rest : List ℕ) → l.fits v ≡ true → bs ≡ bytes_of l v ++ rest
      → (read l bs ≡ Some (v, length (bytes_of l v))) × (drop (length (bytes_of l v)) bs ≡ rest)
  written_read v rest fits e =
      ((one_reading l bs lawful typed (read l bs) refl).back v rest fits e, rw e (drop_at (bytes_of l v) rest (length (bytes_of l v)) refl))

  -- a record that is read was written
  pub read_written : (v : V) (n : ℕ) → read l bs ≡ Some (v, n) → (l.fits v ≡ true) × (n ≡ length (bytes_of l v)) × (bs ≡ bytes_of l v ++ drop n bs)
  read_written v n e =
      let only = (one_reading l bs lawful typed (read l bs) refl).only v n e in
      (only.0, only.1, sym (take-append-drop n bs) ∙ ap (λ front. front ++ drop n bs) only.2)
