-- Numbers at places in a body: each reads back from where it was written, and is written as the bytes that it was read from.
use Rattle.std.proofs.Common.{◌≡◌, ℕ, zero, suc, ◌+◌, ◌*◌, ◌%◌, ◌^◌, ◌<◌, ◌≤◌, List, [], ◌∷◌, ◌++◌, length, get_or, take, drop, sym, refl, ◌∙◌, arith}
use Rattle.std.proofs.ByRecursion.{All-take, All-drop}
use Rattle.std.proofs.lemmas.List.{length-take, length-drop, get_or-take, get_or-drop, take_all, take_at, drop_at, drop_all, append-nil, take-append-drop, drop-drop}
use Rattle.lines.specs.Bytes.{Bytes, le, number}
use Rattle.lines.proofs.LittleEndian.{number_2, number_4, length-le, number-le, number_lt, le-number}
use Rattle.records.specs.Numbers.{field}

-- the first number, and those behind it
pub field_here : (k n : ℕ) (rest : List ℕ) → n < 256 ^ k → field 0 k (le k n ++ rest) ≡ n
field_here k n rest h = rw (take_at (le k n) rest k (length-le k n), number-le k n h)

pub field_only : (k n : ℕ) → n < 256 ^ k → field 0 k (le k n) ≡ n
field_only k n h = rw (take_all k (le k n) (omega (arith, length-le k n)), number-le k n h)

pub field_behind : (at k j n : ℕ) (rest : List ℕ) → field (j + at) k (le j n ++ rest) ≡ field at k rest
field_behind at k j n rest = rw (← drop-drop at j (le j n ++ rest), drop_at (le j n) rest j (length-le j n))

-- a number is written as the bytes that hold it, with what stands behind them
pub field_again : (at k : ℕ) (bs : List ℕ) → Bytes bs → at + k ≤ length bs → le k (field at k bs) ++ drop (at + k) bs ≡ drop at bs
field_again at k bs typed h =
    let part = drop at bs in
    let long : length (take k part) ≡ k = simp (length-take, length-drop) (omega arith) in
    let first = rw long at (le-number (take k part) (All-take (λ b. b < 256) k part (All-drop (λ b. b < 256) at bs typed))) in
    rw (first, ← drop-drop k at bs) (take-append-drop k part)

-- a number of one byte is that byte
pub le_1 : (n : ℕ) → n < 256 → le 1 n ≡ n ∷ []
unfolding le
le_1 n h = let low : n % 256 ≡ n = omega arith in rw low

pub field_1 : (at : ℕ) (bs : List ℕ) → field at 1 bs ≡ get_or bs at 0
unfolding number
field_1 zero [] = refl
field_1 zero (b ∷ bs) = omega arith
field_1 (suc at) [] = refl
field_1 (suc at) (b ∷ bs) = field_1 at bs

-- the number of two bytes, and of four
pub field_2 : (at : ℕ) (bs : List ℕ) → field at 2 bs ≡ get_or bs at 0 + get_or bs (at + 1) 0 * 256
field_2 at bs =
    let front = drop at bs in
    let few : length (take 2 front) ≤ 2 = simp length-take (omega arith) in
    let here : at + 0 ≡ at = omega arith in
    number_2 (take 2 front) few ∙ rw (get_or-take 2 front 0 0 (omega arith), get_or-take 2 front 1 0 (omega arith), get_or-drop at bs 0 0, get_or-drop at bs 1 0, here)

pub field_4 : (at : ℕ) (bs : List ℕ) → field at 4 bs ≡ get_or bs at 0 + get_or bs (at + 1) 0 * 256 + get_or bs (at + 2) 0 * 65536 + get_or bs (at + 3) 0 * 16777216
field_4 at bs =
    let front = drop at bs in
    let few : length (take 4 front) ≤ 4 = simp length-take (omega arith) in
    let here : at + 0 ≡ at = omega arith in
    number_4 (take 4 front) few
    ∙ rw (get_or-take 4 front 0 0 (omega arith), get_or-take 4 front 1 0 (omega arith), get_or-take 4 front 2 0 (omega arith), get_or-take 4 front 3 0 (omega arith), get_or-drop at bs 0 0, get_or-drop at bs 1 0, get_or-drop at bs 2 0, get_or-drop at bs 3 0, here)

-- a number fits the bytes that it was read from
pub field_lt : (at k : ℕ) (bs : List ℕ) → Bytes bs → at + k ≤ length bs → field at k bs < 256 ^ k
field_lt at k bs typed h =
    let part = drop at bs in
    let long : length (take k part) ≡ k = simp (length-take, length-drop) (omega arith) in
    rw long at (number_lt (take k part) (All-take (λ b. b < 256) k part (All-drop (λ b. b < 256) at bs typed)))

-- the number in the last bytes
pub field_last : (at k : ℕ) (bs : List ℕ) → Bytes bs → at + k ≡ length bs → le k (field at k bs) ≡ drop at bs
field_last at k bs typed h =
    let none : drop (at + k) bs ≡ [] = drop_all (at + k) bs (omega arith) in
    sym (append-nil (le k (field at k bs))) ∙ rw none at (field_again at k bs typed (omega arith))
