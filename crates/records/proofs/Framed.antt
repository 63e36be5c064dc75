-- The laws of a framed record: how it is written piece by piece, and that a lawful layout has one reading.
use Rattle.std.proofs.Common.{◌≡◌, ℕ, ◌+◌, ◌-◌, ◌<◌, ◌≤◌, ◌&&◌, eqb, leb, List, ◌++◌, length, take, drop, Some, None, Option, sym, refl, ap, ◌∙◌, inl, inr, arith}
use borrow.Rule.Slice.PartMut.{put_mid}
use Rattle.std.proofs.ByRecursion.{All-append, All-take, All-drop}
use Rattle.std.proofs.lemmas.List.{length-append, length-take, length-take-le, length-drop, take_at, drop_at, take-append-drop, append_assoc, drop-take, take-take}
use Rattle.std.proofs.lemmas.Bool.{and_parts, cases_Bool, eqb-true, leb-true, eq-eqb, le-leb}
use Rattle.lines.specs.Bytes.{Bytes, le, number, put, room}
use Rattle.lines.proofs.LittleEndian.{length-le, bytes_le, number-le, le-number}
use Rattle.lines.proofs.Payloads.{put_fits, put-short, put_behind}
use Rattle.records.specs.Framing.{framed, record_length, Layout, sized, read_sized, read, LawfulLayout, OneReading}

pub length-framed : (kind : ℕ) (body : List ℕ) → length (framed kind body) ≡ 4 + length body
unfolding framed
length-framed kind body = simp (length-append, length-le) (omega arith)

pub bytes-append : (bs cs : List ℕ) → Bytes bs → Bytes cs → Bytes (bs ++ cs)
bytes-append bs cs h k = All-append (λ b. b < 256) bs cs h k

pub bytes-framed : (kind : ℕ) (body : List ℕ) → Bytes body → Bytes (framed kind body)
unfolding framed
bytes-framed kind body h =
    let n = 4 + length body in
    bytes-append (le 2 n) (le 2 kind ++ body) (bytes_le 2 n) (bytes-append (le 2 kind) body (bytes_le 2 kind) h)

-- a part of a list, and the part behind it
pub take_split : {X : Type 0} (a b : ℕ) (xs : List X) → take a xs ++ take b (drop a xs) ≡ take (a + b) xs
take_split a b xs = rw (← drop-take a b xs, ← take-take a (a + b) xs (omega arith)) (take-append-drop a (take (a + b) xs))

-- what a writer of length, kind and body leaves in memory
module _ (kind : ℕ) (body out : List ℕ) where
  pub framed_behind : 4 + length body ≤ length out
      → let front = le 2 (4 + length body) ++ le 2 kind in
      (room (framed kind body) out ≡ Some (4 + length body))
      × (put_mid 4 (length (put front out) - 4) (put front out) (put body (drop 4 (put front out))) ≡ put (framed kind body) out)
  unfolding framed
  framed_behind h =
      let front = le 2 (4 + length body) ++ le 2 kind in
      let four : length front ≡ 4 = simp (length-append, length-le) in
      let long = length-framed kind body in
      let fits = put_fits (framed kind body) out (omega arith) in
      (fits.0 ∙ ap Some long, put_behind 4 front body out four h ∙ ap (λ bs. put bs out) (append_assoc (le 2 (4 + length body)) (le 2 kind) body))

  pub framed_short : length out < 4 + length body → (room (framed kind body) out ≡ None) × (put (framed kind body) out ≡ out)
  framed_short h = put-short (framed kind body) out (omega (arith, length-framed kind body))

-- the length that a record begins with, its kind, and its body
module _ (kind : ℕ) (body rest : List ℕ) (small : kind ≤ 65535) (short : length body ≤ 28) where
  frame_length : record_length kind (framed kind body ++ rest) ≡ Some (4 + length body)
  unfolding framed
  frame_length =
      let n = 4 + length body in
      let first : number (take 2 (framed kind body ++ rest)) ≡ n =
      rw (append_assoc (le 2 n) (le 2 kind ++ body) rest, take_at (le 2 n) ((le 2 kind ++ body) ++ rest) 2 (length-le 2 n), number-le 2 n (omega arith)) in
      let second : number (take 2 (drop 2 (framed kind body ++ rest))) ≡ kind =
      rw (append_assoc (le 2 n) (le 2 kind ++ body) rest, drop_at (le 2 n) ((le 2 kind ++ body) ++ rest) 2 (length-le 2 n), append_assoc (le 2 kind) body rest, take_at (le 2 kind) (body ++ rest) 2 (length-le 2 kind), number-le 2 kind (omega arith)) in
      let long : n ≤ length (framed kind body ++ rest) = simp length-append (omega (arith, length-le 2 n, length-le 2 kind)) in
      rw (first, second, le-leb 4 n (omega arith), le-leb n (length (framed kind body ++ rest)) long, eq-eqb kind kind refl)

  frame_body : take (4 + length body - 4) (drop 4 (framed kind body ++ rest)) ≡ body
  unfolding framed
  frame_body =
      let n = 4 + length body in
      let back : 4 + length body - 4 ≡ length body = omega arith in
      let four : length (le 2 n ++ le 2 kind) ≡ 4 = simp (length-append, length-le) in
      let parts : framed kind body ++ rest ≡ (le 2 n ++ le 2 kind) ++ (body ++ rest) = simp append_assoc in
      rw (back, parts, drop_at (le 2 n ++ le 2 kind) (body ++ rest) 4 four, take_at body rest (length body) refl)

-- what a reader finds, once it has the record's length
module _ {V : Type 0} (l : Layout V) (bs : List ℕ) where
  pub read_none : None ≡ record_length l.kind bs → None ≡ read l bs
  read_none h = rw (← h)

-- the length that a record was found to have
pub record_found : (kind : ℕ) (bs : List ℕ) (n : ℕ) → record_length kind bs ≡ Some n
    → (n ≡ number (take 2 bs)) × (4 ≤ n) × (n ≤ length bs) × (number (take 2 (drop 2 bs)) ≡ kind)
record_found kind bs n h =
    let m = number (take 2 bs) in
    let k = number (take 2 (drop 2 bs)) in
    elim (cases_Bool (leb 4 m && (leb m (length bs) && eqb k kind))) [
      | inl t ↦
          let p = and_parts (leb 4 m) (leb m (length bs) && eqb k kind) t in
          let q = and_parts (leb m (length bs)) (eqb k kind) p.1 in
          let e : Some m ≡ Some n = rw t at h in
          let same : m ≡ n = cc in
          let least = leb-true 4 m p.0 in
          let most = leb-true m (length bs) q.0 in
          (sym same, omega arith, omega arith, eqb-true k kind q.1)
      | inr f ↦ let e : None ≡ Some n = rw f at h in absurd (cc)
    ]

-- a record that was found is its frame around its body
record_framed : (kind : ℕ) (bs : List ℕ) (n : ℕ) → Bytes bs → record_length kind bs ≡ Some n
    → take n bs ≡ framed kind (take (n - 4) (drop 4 bs))
unfolding framed
record_framed kind bs n typed h =
    let found = record_found kind bs n h in
    let first : le 2 n ≡ take 2 bs =
    let long : length (take 2 bs) ≡ 2 = simp length-take (omega (arith, found)) in
    rw found.0 (rw long at (le-number (take 2 bs) (All-take (λ b. b < 256) 2 bs typed))) in
    let second : le 2 kind ≡ take 2 (drop 2 bs) =
    let long : length (take 2 (drop 2 bs)) ≡ 2 = simp (length-take, length-drop) (omega (arith, found)) in
    rw (← found.3) (rw long at (le-number (take 2 (drop 2 bs)) (All-take (λ b. b < 256) 2 (drop 2 bs) (All-drop (λ b. b < 256) 2 bs typed)))) in
    let long : 4 + length (take (n - 4) (drop 4 bs)) ≡ n = simp (length-take, length-drop) (omega (arith, found)) in
    let whole : 4 + (n - 4) ≡ n = omega (arith, found) in
    let two : take 2 bs ++ take 2 (drop 2 bs) ≡ take 4 bs = take_split 2 2 bs in
    let all : take 4 bs ++ take (n - 4) (drop 4 bs) ≡ take n bs = rw whole at (take_split 4 (n - 4) bs) in
    rw (long, first, second, ← append_assoc (take 2 bs) (take 2 (drop 2 bs)) (take (n - 4) (drop 4 bs)), two, all)

-- what a reading with its length was made of
sized_some : {V : Type 0} (n : ℕ) (o : Option V) (v : V) (m : ℕ) → sized n o ≡ Some (v, m) → (o ≡ Some v) × (n ≡ m)
sized_some n None v m h = absurd (cc)
sized_some n (Some w) v m h =
    let e : ◌≡◌ {A = _ × ℕ} (w, n) (v, m) = cc in
    (ap Some (ap (λ p. p.0) e), ap (λ p. p.1) e)

module _ {V : Type 0} (l : Layout V) (bs : List ℕ) where
  -- a value that was read stands behind a record's length
  pub read_found : (o : Option ℕ) (v : V) (n : ℕ) → read_sized l bs o ≡ Some (v, n) → (o ≡ Some n) × (l.reading (take (n - 4) (drop 4 bs)) ≡ Some v)
  read_found None v n h = absurd (cc)
  read_found (Some m) v n h =
      let p = sized_some m (l.reading (take (m - 4) (drop 4 bs))) v n h in
      (ap Some p.1, rw p.1 at p.0)

  -- a lawful layout has one reading
  pub one_reading : LawfulLayout l → Bytes bs → (r : Option (V × ℕ)) → r ≡ read l bs → OneReading l bs r
  one_reading lawful typed r e = record {
    back = λ v rest fits whole.
        let body = l.body v in
        let short = lawful.short v fits in
        let long = frame_length l.kind body rest lawful.kind_small short in
        let inside = frame_body l.kind body rest lawful.kind_small short in
        rw (e, whole, long, inside, lawful.reads_back v fits, length-framed l.kind body);
    only = λ v n some.
        let found = read_found (record_length l.kind bs) v n (sym e ∙ some) in
        let content = lawful.reads_only (take (n - 4) (drop 4 bs)) v (All-take (λ b. b < 256) (n - 4) (drop 4 bs) (All-drop (λ b. b < 256) 4 bs typed)) found.1 in
        let whole = record_framed l.kind bs n typed found.0 ∙ ap (framed l.kind) (sym content.1) in
        let within = (record_found l.kind bs n found.0).2 in
        (content.0, sym (length-take-le n bs within) ∙ ap length whole, whole);
  }

  -- a record that is read has four bytes at least, is all there, and has its kind
  pub found : (v : V) (n : ℕ) → read l bs ≡ Some (v, n) → (4 ≤ n) × (n ≤ length bs) × (number (take 2 (drop 2 bs)) ≡ l.kind)
  found v n h =
      let f = record_found l.kind bs n (read_found (record_length l.kind bs) v n h).0 in
      (f.1, f.2, f.3)

-- bytes that begin with a record of one kind are no record of another
pub other_kind : {V W : Type 0} (l : Layout V) (m : Layout W) (bs : List ℕ) (v : V) (n : ℕ) → read l bs ≡ Some (v, n) → (l.kind ≡ m.kind → ⊥)
    → (o : Option (W × ℕ)) → read m bs ≡ o → o ≡ None
other_kind l m bs v n h differ None e = refl
other_kind l m bs v n h differ (Some p) e = absurd (differ (sym (found l bs v n h).2 ∙ (found m bs p.0 p.1 e).2))
