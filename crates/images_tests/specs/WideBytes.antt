-- The bytes of a wide line: they are written whole, they decode to it, and 26 bytes are the payload of what they decode to.
use Rattle.std.specs.Prelude.{◌≡◌, ℕ, ◌+◌, ◌-◌, ◌^◌, ◌<◌, ◌≤◌, true, List, ◌++◌, length, take, drop, Option, Some, None}
use Rattle.std.proofs.Common.{sym, ap, ◌∙◌, arith}
use borrow.Rule.Slice.PartMut.{put_mid}
use Rattle.std.proofs.ByRecursion.{All-append, All-take, All-drop}
use Rattle.std.proofs.lemmas.List.{length-append, length-take, length-drop, take_at, drop_at, take_all, take-take, drop-take, take-append-drop, append_assoc, drop-drop}
use Rattle.std.proofs.lemmas.Bool.{eq-eqb}
use Rattle.std.proofs.lemmas.Bool.Decides.{nat_tests}
use Rattle.images_tests.specs.declared.wide.WideLine.{WideLine}
use Rattle.images_tests.specs.Wide.{decoded, keeps, payload}
use Rattle.lines.specs.Bytes.{Bytes, le, number, put, room, whole, both}
use Rattle.lines.proofs.LittleEndian.{length-le, bytes_le, number-le, le-number}
use Rattle.lines.proofs.Payloads.{length_two, bytes_two, put_behind, two_parts, put_fits}

-- the first three numbers
abbrev three : WideLine → List ℕ
three w = (le 8 w.first ++ le 8 w.second) ++ le 8 w.third

length_three : (w : WideLine) → length (three w) ≡ 24
length_three w = rw (length-append (le 8 w.first ++ le 8 w.second) (le 8 w.third), length_two 8 8 w.first w.second, length-le 8 w.third)

pub length-payload : (w : WideLine) → length (payload w) ≡ 26
length-payload w = rw (length-append (three w) (le 2 w.fourth), length_three w, length-le 2 w.fourth)

pub bytes-payload : (w : WideLine) → Bytes (payload w)
bytes-payload w =
    let two = bytes_two 8 8 w.first w.second in
    let front = All-append (λ b. b < 256) (le 8 w.first ++ le 8 w.second) (le 8 w.third) two (bytes_le 8 w.third) in
    All-append (λ b. b < 256) (three w) (le 2 w.fourth) front (bytes_le 2 w.fourth)

-- the k bytes behind j bytes
mid_part : (j k : ℕ) (front mid back : List ℕ) → length front ≡ j → length mid ≡ k → take k (drop j ((front ++ mid) ++ back)) ≡ mid
mid_part j k front mid back e f = rw (append_assoc front mid back, drop_at front (mid ++ back) j e, take_at mid back k f)

-- numbers that the rule allows fit their bytes
fits : (w : WideLine) → keeps w ≡ true → (w.first < 256 ^ 8) × (w.second < 256 ^ 8) × (w.third < 256 ^ 8) × (w.fourth < 256 ^ 2)
fits w h = grind (arith, nat_tests)

pub decoded-payload : (w : WideLine) → keeps w ≡ true → decoded (payload w) ≡ w
decoded-payload w h =
    let f = fits w h in
    let a = le 8 w.first in
    let b = le 8 w.second in
    let c = le 8 w.third in
    let d = le 2 w.fourth in
    let first : take 8 (payload w) ≡ a = rw (append_assoc (a ++ b) c d, append_assoc a b (c ++ d)) (take_at a (b ++ (c ++ d)) 8 (length-le 8 w.first)) in
    let second : take 8 (drop 8 (payload w)) ≡ b = rw (append_assoc (a ++ b) c d) (mid_part 8 8 a b (c ++ d) (length-le 8 w.first) (length-le 8 w.second)) in
    let third : take 8 (drop 16 (payload w)) ≡ c = mid_part 16 8 (a ++ b) c d (length_two 8 8 w.first w.second) (length-le 8 w.third) in
    let fourth : take 2 (drop 24 (payload w)) ≡ d = rw (drop_at (three w) d 24 (length_three w)) (take_all 2 d (omega (arith, length-le 2 w.fourth))) in
    λ i. record {
      first = (ap number first ∙ number-le 8 w.first f.0) i;
      second = (ap number second ∙ number-le 8 w.second f.1) i;
      third = (ap number third ∙ number-le 8 w.third f.2) i;
      fourth = (ap number fourth ∙ number-le 2 w.fourth f.3) i;
    }

-- the number that k bytes hold is written as those bytes
piece : (j k : ℕ) (bs : List ℕ) → Bytes bs → j + k ≤ length bs → le k (number (take k (drop j bs))) ≡ take k (drop j bs)
piece j k bs h e =
    let long : length (take k (drop j bs)) ≡ k = simp (length-take, length-drop) (omega arith) in
    rw long at (le-number (take k (drop j bs)) (All-take (λ b. b < 256) k (drop j bs) (All-drop (λ b. b < 256) j bs h)))

further : (j k : ℕ) (bs : List ℕ) → take j bs ++ take k (drop j bs) ≡ take (j + k) bs
further j k bs = rw (take-take j (j + k) bs (omega arith), drop-take j k bs) at (take-append-drop j (take (j + k) bs))

pub payload-decoded : (bs : List ℕ) → Bytes bs → length bs ≡ 26 → payload (decoded bs) ≡ bs
payload-decoded bs h e =
    rw (
      piece 0 8 bs h (omega arith),
      piece 8 8 bs h (omega arith),
      piece 16 8 bs h (omega arith),
      piece 24 2 bs h (omega arith),
      further 8 8 bs,
      further 16 8 bs,
      further 24 2 bs,
    ) (take_all 26 bs (omega arith))

-- four parts written one behind the other
pub written : (w : WideLine) (out : List ℕ) → 26 ≤ length out
    → (room (payload w) out ≡ Some 26)
    × (put (payload w) out ≡ put_mid 24 2 (put_mid 16 8 (put_mid 8 8 (le 8 w.first ++ drop 8 out) (le 8 w.second)) (le 8 w.third)) (le 2 w.fourth))
written w out h =
    let a = le 8 w.first in
    let b = le 8 w.second in
    let c = le 8 w.third in
    let d = le 2 w.fourth in
    let second = two_parts 8 8 a b out (length-le 8 w.first) (length-le 8 w.second) in
    let third = two_parts 16 8 (a ++ b) c out (length_two 8 8 w.first w.second) (length-le 8 w.third) in
    let fourth = two_parts 24 2 (three w) d out (length_three w) (length-le 2 w.fourth) in
    let parts = ap (λ m. put_mid 24 2 (put_mid 16 8 m c) d) second ∙ ap (λ m. put_mid 24 2 m d) third ∙ fourth in
    let whole = put_fits (payload w) out (omega (arith, length-payload w)) in
    (whole.0 ∙ ap Some (length-payload w), whole.1 ∙ rw (length-payload w) (sym parts))

-- two pairs of numbers written one behind the other
pub written_pairs : (w : WideLine) (out : List ℕ) → 26 ≤ length out
    → (room (payload w) out ≡ Some 26)
    × (put_mid 16 (length (put (le 8 w.first ++ le 8 w.second) out) - 16) (put (le 8 w.first ++ le 8 w.second) out) (put (le 8 w.third ++ le 2 w.fourth) (drop 16 (put (le 8 w.first ++ le 8 w.second) out))) ≡ put (payload w) out)
written_pairs w out h =
    let front = le 8 w.first ++ le 8 w.second in
    let back = le 8 w.third ++ le 2 w.fourth in
    let whole = put_fits (payload w) out (omega (arith, length-payload w)) in
    (whole.0 ∙ ap Some (length-payload w), rw (append_assoc front (le 8 w.third) (le 2 w.fourth)) (put_behind 16 front back out (length_two 8 8 w.first w.second) (omega (arith, length_two 8 2 w.third w.fourth))))

-- 26 bytes hold two such pairs
pub pair_there : (j k : ℕ) (bs : List ℕ) → length bs ≡ j + k → None ≡ both (whole j (take j bs)) (whole k (drop j bs)) → ⊥
pair_there j k bs e none =
    let front = eq-eqb (length (take j bs)) j (simp length-take (omega arith)) in
    let back = eq-eqb (length (drop j bs)) k (simp length-drop (omega arith)) in
    let some : ◌≡◌ {A = Option (ℕ × ℕ)} None (Some (number (take j bs), number (drop j bs))) = rw (front, back) at none in
    cc

pub decoded_pairs : (bs front back : List ℕ) (w : WideLine) → front ≡ take 16 bs → back ≡ drop 16 bs → length front ≡ 16 → length back ≡ 10
    → number (take 8 front) ≡ w.first → number (drop 8 front) ≡ w.second → number (take 8 back) ≡ w.third → number (drop 8 back) ≡ w.fourth → (length bs ≡ 26) × (decoded bs ≡ w)
decoded_pairs bs front back w is there a b p q r s =
    let long : length bs ≡ 26 = omega (arith, length-take 16 bs, length-drop 16 bs, ap length is, ap length there) in
    let first : take 8 bs ≡ take 8 front = rw is (sym (take-take 8 16 bs (omega arith))) in
    let second : take 8 (drop 8 bs) ≡ drop 8 front = rw is (sym (drop-take 8 8 bs)) in
    let third : take 8 (drop 16 bs) ≡ take 8 back = rw there in
    let fourth : take 2 (drop 24 bs) ≡ drop 8 back = rw (there, drop-drop 8 16 bs) (take_all 2 (drop 24 bs) (simp length-drop (omega arith))) in
    (long, rw (first, second, third, fourth, p, q, r, s))
