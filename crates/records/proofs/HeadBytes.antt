-- A head's body: it reads back, and twelve bytes that read as a head are its body.
use Rattle.std.proofs.Common.{◌≡◌, ℕ, ◌^◌, ◌<◌, true, eqb, List, ◌++◌, length, get_or, Some, None, Option, refl, ◌∙◌, inl, inr, arith}
use Rattle.std.proofs.lemmas.List.{length-append}
use Rattle.std.proofs.lemmas.Bool.{cases_Bool, eqb-true, eq-eqb, ne_eqb}
use Rattle.std.proofs.lemmas.Bool.Decides.{nat_tests}
use Rattle.lines.specs.Bytes.{Bytes, le}
use Rattle.lines.proofs.LittleEndian.{length-le, bytes_le}
use Rattle.lines.proofs.Payloads.{bytes_two}
use Rattle.records.specs.declared.heads.Head.{Head}
use Rattle.records.specs.declared.heads.Mode.{Mode}
use Rattle.records.specs.declared.heads.UnknownMode.{UnknownMode}
use Rattle.std.specs.Option.{ok_or}
use Rattle.std.specs.Result.{result_ok}
use Rattle.records.specs.declared.heads.Mode.TheVariants.{Full, Partial}
use Rattle.records.specs.Framing.{LawfulLayout}
use Rattle.records.specs.Heads.{mode_code, mode_of, mode_or_not, head_body, head_with, head_in, head_fits, head_record}
use Rattle.records.specs.Numbers.{field}
use Rattle.records.proofs.Framed.{bytes-append}
use Rattle.records.proofs.FieldBytes.{field_here, field_only, field_behind, field_again, field_last, field_lt, field_1}

pub length-head : (h : Head) → length (head_body h) ≡ 12
unfolding head_body
length-head h = simp (length-append, length-le)

bytes-head : (h : Head) → Bytes (head_body h)
unfolding head_body
bytes-head h =
    bytes-append (le 1 h.code) _ (bytes_le 1 h.code) (bytes-append (le 1 (mode_code h.mode)) _ (bytes_le 1 (mode_code h.mode)) (bytes-append (le 2 h.n) _ (bytes_le 2 h.n) (bytes_two 4 4 h.from h.point)))

mode_back : (m : Mode) → mode_of (mode_code m) ≡ Some m
mode_back Full = refl
mode_back Partial = refl

pub mode_small : (m : Mode) → mode_code m < 256
mode_small Full = omega arith
mode_small Partial = omega arith

mode_only : (b : ℕ) (m : Mode) → mode_of b ≡ Some m → mode_code m ≡ b
mode_only b Full h = grind (arith, nat_tests)
mode_only b Partial h = grind (arith, nat_tests)

head_back : (h : Head) → head_fits h ≡ true → head_in (head_body h) ≡ Some h
unfolding head_body head_in
head_back h fits =
    let small : (h.code < 256) × (h.n < 2 ^ 16) × (h.from < 2 ^ 32) × (h.point < 2 ^ 32) = grind (arith, nat_tests) in
    let mc = mode_code h.mode in
    let r₃ = le 4 h.from ++ le 4 h.point in
    let r₂ = le 2 h.n ++ r₃ in
    let r₁ = le 1 mc ++ r₂ in
    let bs = le 1 h.code ++ r₁ in
    let code : field 0 1 bs ≡ h.code = field_here 1 h.code r₁ small.0 in
    let mode : field 1 1 bs ≡ mc = field_behind 0 1 1 h.code r₁ ∙ field_here 1 mc r₂ (mode_small h.mode) in
    let n : field 2 2 bs ≡ h.n = field_behind 1 2 1 h.code r₁ ∙ field_behind 0 2 1 mc r₂ ∙ field_here 2 h.n r₃ small.1 in
    let from : field 4 4 bs ≡ h.from =
    field_behind 3 4 1 h.code r₁ ∙ field_behind 2 4 1 mc r₂ ∙ field_behind 0 4 2 h.n r₃ ∙ field_here 4 h.from (le 4 h.point) small.2 in
    let point : field 8 4 bs ≡ h.point =
    field_behind 7 4 1 h.code r₁ ∙ field_behind 6 4 1 mc r₂ ∙ field_behind 4 4 2 h.n r₃ ∙ field_behind 0 4 4 h.from (le 4 h.point) ∙ field_only 4 h.point small.3 in
    rw (eq-eqb (length bs) 12 (length-head h), mode, mode_back h.mode, code, n, from, point)

-- twelve bytes whose mode is known
module _ (bs : List ℕ) (typed : Bytes bs) (long : length bs ≡ 12) where
  head_whole : (m : Mode) → mode_code m ≡ field 1 1 bs → (h : Head) → head_with bs (Some m) ≡ Some h → (head_fits h ≡ true) × (head_body h ≡ bs)
  unfolding head_body
  head_whole m mode h some =
      let e : record { code = field 0 1 bs; mode = m; n = field 2 2 bs; from = field 4 4 bs; point = field 8 4 bs } ≡ h = cc in
      let code = field_lt 0 1 bs typed (omega arith) in
      let n = field_lt 2 2 bs typed (omega arith) in
      let from = field_lt 4 4 bs typed (omega arith) in
      let point = field_lt 8 4 bs typed (omega arith) in (
        rw (← e) (grind (arith, nat_tests)),
        rw (← e, mode, field_last 8 4 bs typed (omega arith), field_again 4 4 bs typed (omega arith), field_again 2 2 bs typed (omega arith), field_again 1 1 bs typed (omega arith), field_again 0 1 bs typed (omega arith)),
      )

  head_found : (o : Option Mode) → mode_of (field 1 1 bs) ≡ o → (h : Head) → head_with bs o ≡ Some h → (head_fits h ≡ true) × (head_body h ≡ bs)
  head_found None mode h some = absurd (cc)
  head_found (Some m) mode h some = head_whole m (mode_only (field 1 1 bs) m mode) h some

head_only : (bs : List ℕ) (h : Head) → Bytes bs → head_in bs ≡ Some h → (head_fits h ≡ true) × (head_body h ≡ bs)
unfolding head_in
head_only bs h typed some = elim (cases_Bool (eqb (length bs) 12)) [
  | inl t ↦ head_found bs typed (eqb-true (length bs) 12 t) (mode_of (field 1 1 bs)) refl h (rw t at some)
  | inr f ↦ let e : None ≡ Some h = rw f at some in absurd (cc)
]

-- what a reader of a body finds, once it has the mode
pub head-short : (bs : List ℕ) → (length bs ≡ 12 → ⊥) → None ≡ head_in bs
unfolding head_in
head-short bs h = rw (ne_eqb (length bs) 12 h)

-- the mode that a code converts to
ok_of : (o : Option Mode) (e : UnknownMode) → result_ok (ok_or o e) ≡ o
ok_of None e = refl
ok_of (Some m) e = refl

pub mode_converted : (b : ℕ) → result_ok (mode_or_not b) ≡ mode_of b
mode_converted b = ok_of (mode_of b) (record { code = b })

pub head_read : (bs : List ℕ) → length bs ≡ 12 → (o : Option Mode) → o ≡ mode_of (get_or bs 1 0) → head_with bs o ≡ head_in bs
unfolding head_in
head_read bs long o e = rw (eq-eqb (length bs) 12 long, field_1 1 bs, e)

pub head-lawful : LawfulLayout head_record
head-lawful = record {
  kind_small = omega arith;
  short = λ h _. omega (arith, length-head h);
  bytes = bytes-head;
  reads_back = head_back;
  reads_only = head_only;
}
