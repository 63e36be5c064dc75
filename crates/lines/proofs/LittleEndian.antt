-- The laws of `le` and `number`: each undoes the other, and both are what the integers' own methods give.
use Rattle.std.proofs.Common.{◌≡◌, ℕ, zero, suc, ◌+◌, ◌*◌, ◌/◌, ◌%◌, ◌^◌, ◌<◌, ◌≤◌, eqb, List, [], ◌∷◌, length, get_or, drop, Some, None, refl, ap, inl, inr, pow-suc, arith, w8, Fits}
use native.Mathlib.Nat.{div-div-eq-div-mul}
use Rattle.std.proofs.ByRecursion.{All-from_get_or}
use Rattle.std.proofs.lemmas.List.{drop_all}
use Rattle.std.proofs.lemmas.Nat.{div_below}
use Rattle.std.proofs.lemmas.Bool.{cases_Bool}
use Rattle.lines.specs.Bytes.{Bytes, le, number, whole}
pub use Rattle.lines.specs.Numbers.{length-le}

pub bytes_le : (k n : ℕ) → Bytes (le k n)
unfolding le
bytes_le zero n = tt
bytes_le (suc k) n = (omega arith, bytes_le k (n / 256))

pub number-le : (k n : ℕ) → n < 256 ^ k → number (le k n) ≡ n
unfolding le number
number-le zero n h = omega arith
number-le (suc k) n h =
    let small : n / 256 < 256 ^ k = div_below n 256 (256 ^ k) (omega arith) (rw pow-suc at h) in
    omega (arith, number-le k (n / 256) small)

pub le-number : (bs : List ℕ) → Bytes bs → le (length bs) (number bs) ≡ bs
unfolding le number
le-number [] h = refl
le-number (b ∷ bs) h =
    let low : (b + number bs * 256) % 256 ≡ b = omega (arith, h.0) in
    let high : (b + number bs * 256) / 256 ≡ number bs = omega (arith, h.0) in
    rw (low, high) (ap (λ xs. b ∷ xs) (le-number bs h.1))

pub number_lt : (bs : List ℕ) → Bytes bs → number bs < 256 ^ length bs
unfolding number
number_lt [] h = omega arith
number_lt (b ∷ bs) h = rw pow-suc (omega (arith, h.0, number_lt bs h.1))

-- the lowest byte that is left, and those above it
number_from : (bs : List ℕ) (i : ℕ) → number (drop i bs) ≡ get_or bs i 0 + number (drop (suc i) bs) * 256
unfolding number
number_from [] zero = refl
number_from [] (suc i) = refl
number_from (b ∷ bs) zero = refl
number_from (b ∷ bs) (suc i) = number_from bs i

number_none : (bs : List ℕ) (i : ℕ) → length bs ≤ i → number (drop i bs) ≡ 0
unfolding number
number_none bs i h = rw (drop_all i bs h)

-- what `from_le_bytes` gives
pub number_2 : (bs : List ℕ) → length bs ≤ 2 → number bs ≡ get_or bs 0 0 + get_or bs 1 0 * 256
number_2 bs h = omega (arith, number_from bs 0, number_from bs 1, number_none bs 2 h)

pub number_4 : (bs : List ℕ) → length bs ≤ 4 → number bs ≡ get_or bs 0 0 + get_or bs 1 0 * 256 + get_or bs 2 0 * 65536 + get_or bs 3 0 * 16777216
number_4 bs h = omega (arith, number_from bs 0, number_from bs 1, number_from bs 2, number_from bs 3, number_none bs 4 h)

pub number_8 : (bs : List ℕ) → length bs ≤ 8
    → number bs ≡ get_or bs 0 0 + get_or bs 1 0 * 256 + get_or bs 2 0 * 65536 + get_or bs 3 0 * 16777216 + get_or bs 4 0 * 4294967296 + get_or bs 5 0 * 1099511627776 + get_or bs 6 0 * 281474976710656 + get_or bs 7 0 * 72057594037927936
number_8 bs h = omega (arith, number_from bs 0, number_from bs 1, number_from bs 2, number_from bs 3, number_from bs 4, number_from bs 5, number_from bs 6, number_from bs 7, number_none bs 8 h)

-- what a slice of bytes is known to hold
pub bytes_typed : (bs : List ℕ) → ((i : ℕ) → Fits w8 (get_or bs i 0)) → Bytes bs
bytes_typed bs typed = All-from_get_or (λ b. b < 256) bs 0 (λ i _. omega (arith, typed i))

-- what `to_le_bytes` gives
pub le_2 : (n : ℕ) → le 2 n ≡ n % 256 ∷ n / 256 % 256 ∷ []
unfolding le
le_2 n = refl

pub le_4 : (n : ℕ) → le 4 n ≡ n % 256 ∷ n / 256 % 256 ∷ n / 65536 % 256 ∷ n / 16777216 % 256 ∷ []
unfolding le
le_4 n = simp div-div-eq-div-mul

pub le_8 : (n : ℕ) → le 8 n ≡ n % 256 ∷ n / 256 % 256 ∷ n / 65536 % 256 ∷ n / 16777216 % 256 ∷ n / 4294967296 % 256 ∷ n / 1099511627776 % 256 ∷ n / 281474976710656 % 256 ∷ n / 72057594037927936 % 256 ∷ []
unfolding le
le_8 n = simp div-div-eq-div-mul

-- a number that was read
pub whole_some : (k : ℕ) (bs : List ℕ) (n : ℕ) → Some n ≡ whole k bs → number bs ≡ n
whole_some k bs n h = elim (cases_Bool (eqb (length bs) k)) [
  | inl t ↦ let e : Some n ≡ Some (number bs) = rw t at h in cc
  | inr f ↦ let e : Some n ≡ None = rw f at h in absurd (cc)
]
