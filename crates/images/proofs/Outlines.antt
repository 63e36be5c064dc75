-- What the reader answers, once it has the head and the number of lines.
use Rattle.std.proofs.Common.{◌≡◌, ℕ, true, false, eqb, List, length, drop, Some, None, Ok, Err, Result, sym, refl, ap}
use Rattle.std.proofs.lemmas.Bool.{and_parts, eqb-true}
use Rattle.lines.specs.Coding.{Coding}
use Rattle.records.specs.declared.heads.Head.{Head}
use Rattle.records.specs.declared.image_lines.ImageLine.{ImageLine}
use Rattle.records.specs.Framing.{read}
use Rattle.records.specs.Heads.{head_record}
use Rattle.images.specs.declared.faults.Unlawful.{Unlawful}
use Rattle.images.specs.Parts.{Outline, outlined}
use Rattle.images.specs.Reading.{unlawful, head_allowed, counted, lines_from, with_head, reading}

abbrev pub outline : List ℕ → Head → Result ℕ Unlawful → Result Outline Unlawful
outline bs h (Ok count) = Ok (record { bytes = bs; head = h; count = count })
outline bs h (Err u) = Err u

module _ {L : Type 0} (f : Coding L) (bs : List ℕ) where
  pub no_head : None ≡ read head_record bs → Err (unlawful 0) ≡ outlined f bs (reading f bs)
  unfolding reading
  no_head e = rw (← e)

  module _ (h : Head) (len : ℕ) (e : Some (h, len) ≡ read head_record bs) where
    pub not_allowed : head_allowed f h ≡ false → Err (unlawful 0) ≡ outlined f bs (reading f bs)
    unfolding reading
    not_allowed out = rw (← e, out)

    head_kept : (vs : Result (List (ImageLine L)) Unlawful) → f.code ≡ h.code → outline bs h (counted vs) ≡ outlined f bs (with_head h vs)
    head_kept (Ok vs) code = ap (λ k. Ok (record { bytes = bs; head = record { code = k; mode = h.mode; n = h.n; from = h.from; point = h.point }; count = length vs })) (sym code)
    head_kept (Err u) code = refl

    pub allowed : head_allowed f h ≡ true → (r : Result ℕ Unlawful) → r ≡ counted (lines_from f h h.n 0 0 len (drop len bs)) → outline bs h r ≡ outlined f bs (reading f bs)
    unfolding reading
    allowed due r is =
        let code = eqb-true h.code f.code (and_parts (eqb h.code f.code) _ due).0 in
        rw (← e, due, is) (head_kept (lines_from f h h.n 0 0 len (drop len bs)) (sym code))
