-- Records whose body is one number are lawful.
use Rattle.std.proofs.Common.{◌≡◌, ℕ, ◌^◌, ◌<◌, ◌≤◌, eqb, List, length, Some, None, inl, inr, arith}
use Rattle.std.proofs.lemmas.Bool.{cases_Bool, eqb-true, eq-eqb, ltb-true, lt-ltb}
use Rattle.lines.specs.Bytes.{Bytes, le, number, whole}
use Rattle.lines.proofs.LittleEndian.{length-le, bytes_le, number-le, le-number, number_lt}
use Rattle.records.specs.Framing.{LawfulLayout}
use Rattle.records.specs.Numbers.{one_number, end_record, mark_record}

module _ (k : ℕ) where
  pub whole_le : (n : ℕ) → n < 256 ^ k → whole k (le k n) ≡ Some n
  whole_le n h = rw (eq-eqb (length (le k n)) k (length-le k n), number-le k n h)

  pub whole_only : (bs : List ℕ) (n : ℕ) → Bytes bs → whole k bs ≡ Some n → (n < 256 ^ k) × (le k n ≡ bs)
  whole_only bs n typed h = elim (cases_Bool (eqb (length bs) k)) [
    | inl t ↦
        let e : Some (number bs) ≡ Some n = rw t at h in
        let same : number bs ≡ n = cc in
        let long : length bs ≡ k = eqb-true (length bs) k t in
        (rw (same, long) at (number_lt bs typed), rw (same, long) at (le-number bs typed))
    | inr f ↦ let e : None ≡ Some n = rw f at h in absurd (cc)
  ]

  pub one_number-lawful : (kind : ℕ) → kind ≤ 65535 → k ≤ 28 → LawfulLayout (one_number kind k)
  one_number-lawful kind small short = record {
    kind_small = small;
    short = λ n _. rw (length-le k n) short;
    bytes = bytes_le k;
    reads_back = λ n fits. whole_le n (ltb-true n (256 ^ k) fits);
    reads_only = λ bs n typed h.
        let p = whole_only bs n typed h in
        (lt-ltb n (256 ^ k) p.0, p.1);
  }

pub mark-lawful : LawfulLayout mark_record
mark-lawful = one_number-lawful 4 5 (omega arith) (omega arith)

pub end_lawful : LawfulLayout end_record
end_lawful = one_number-lawful 2 3 (omega arith) (omega arith)
