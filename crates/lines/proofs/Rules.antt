-- An accepted change gives a line that keeps its rule, whatever the table of changes.
use Rattle.std.proofs.Common.{◌≡◌, ℕ, Bool, true, eqb, List, [], ◌∷◌, Some, None, Option, inl, inr, arith}
use Rattle.std.proofs.lemmas.Bool.{cases_Bool}
use Rattle.lines.specs.Changing.{Outcome, becomes, breaks, judged, chosen}

module _ {L : Type 0} (keeps : L → Bool) where
  -- if o is a new line, that line keeps the rule
  abbrev Kept : Outcome L → Type 0
  Kept o = (y : L) → o ≡ becomes y → keeps y ≡ true

  breaks_kept : Kept breaks
  breaks_kept y h = absurd (cc)

  judged_kept : (o : Option L) → Kept (judged keeps o)
  judged_kept None y h = breaks_kept y h
  judged_kept (Some x) y h = elim (cases_Bool (keeps x)) [
    | inl t ↦ let e : becomes x ≡ becomes y = rw t at h in let same : x ≡ y = cc in rw same at t
    | inr f ↦ breaks_kept y (rw f at h)
  ]

  pub chosen_kept : (rows : List (ℕ × Option L)) (kind : ℕ) → Kept (chosen keeps rows kind)
  chosen_kept [] kind y h = absurd (cc)
  chosen_kept (row ∷ rows) kind y h = elim (cases_Bool (eqb kind row.0)) [
    | inl t ↦ judged_kept row.1 y (rw t at h)
    | inr f ↦ chosen_kept rows kind y (rw f at h)
  ]
