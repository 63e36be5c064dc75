-- What every unsigned number of fixed width owes as bytes.
use Rattle.std.specs.Prelude.{◌≡◌, ℕ, zero, suc, ◌/◌, List, length, None, refl}
use Rattle.std.proofs.Common.{ap}
use Rattle.std.proofs.lemmas.Bool.{ne_eqb}
use Rattle.lines.specs.Bytes.{le, whole}

-- a number of k bytes is written in k bytes
pub length-le : (k n : ℕ) → length (le k n) ≡ k
unfolding le
length-le zero n = refl
length-le (suc k) n = ap suc (length-le k (n / 256))

-- and is read from neither more bytes nor fewer
pub whole_other : (k : ℕ) (bs : List ℕ) → (length bs ≡ k → ⊥) → whole k bs ≡ None
whole_other k bs h = rw (ne_eqb (length bs) k h)
