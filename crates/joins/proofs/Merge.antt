-- Lines of two images side by side.
use Rattle.std.proofs.Common.{◌≡◌, ℕ, suc, ◌+◌, ◌<◌, ◌≤◌, eqb, ltb, List, [], ◌∷◌, length, Some, None, Option, refl, inl, inr, arith}
use Rattle.std.proofs.lemmas.Bool.{cases_Bool, eq-eqb, ne_eqb, le-ltb, lt-ltb}
use Rattle.std.specs.List.{slice_get}
use Rattle.records.specs.declared.image_lines.ImageLine.{ImageLine}
use Rattle.joins.specs.Merging.{weave, overlay}

-- there is no line, or its number is above n
abbrev pub Above : {L : Type 0} → ℕ → Option (ImageLine L) → Type 0
Above n None = Unit {0}
Above n (Some v) = n < v.number

pub overlay_earlier : {L : Type 0} (v : ImageLine L) (vs ws : List (ImageLine L)) → Above v.number (slice_get ws 0) → overlay (v ∷ vs) ws ≡ v ∷ overlay vs ws
overlay_earlier v vs [] h = refl
overlay_earlier v vs (w ∷ ws) h = rw (lt-ltb v.number w.number h)

pub overlay_later : {L : Type 0} (w : ImageLine L) (vs ws : List (ImageLine L)) → Above w.number (slice_get vs 0) → overlay vs (w ∷ ws) ≡ w ∷ overlay vs ws
overlay_later w [] ws h = refl
overlay_later w (v ∷ vs) ws h = rw (le-ltb v.number w.number (omega arith), ne_eqb v.number w.number (omega arith))

pub overlay_both : {L : Type 0} (v w : ImageLine L) (vs ws : List (ImageLine L)) → v.number ≡ w.number → overlay (v ∷ vs) (w ∷ ws) ≡ w ∷ overlay vs ws
overlay_both v w vs ws h = rw (le-ltb v.number w.number (omega arith), eq-eqb v.number w.number h)

-- there are no more of them than both have
weave_few : {L : Type 0} (v : ImageLine L) (behind : List (ImageLine L) → List (ImageLine L)) (n : ℕ) → ((ws : List (ImageLine L)) → length (behind ws) ≤ n + length ws)
    → (ws : List (ImageLine L)) → length (weave v behind ws) ≤ suc n + length ws
weave_few v behind n few [] = omega (arith, few [])
weave_few v behind n few (w ∷ ws) = elim (cases_Bool (ltb v.number w.number)) [
  | inl less ↦ rw less (omega (arith, few (w ∷ ws)))
  | inr more ↦ elim (cases_Bool (eqb v.number w.number)) [
    | inl same ↦ rw (more, same) (omega (arith, few ws))
    | inr other ↦ rw (more, other) (omega (arith, weave_few v behind n few ws))
  ]
]

pub overlay_few : {L : Type 0} (vs ws : List (ImageLine L)) → length (overlay vs ws) ≤ length vs + length ws
overlay_few [] ws = omega arith
overlay_few (v ∷ vs) ws = weave_few v (overlay vs) (length vs) (overlay_few vs) ws
