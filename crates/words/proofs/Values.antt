-- A number read digit by digit.
use Rattle.std.proofs.Common.{◌≡◌, ℕ, ◌+◌, ◌-◌, ◌*◌, ◌^◌, ◌<◌, ◌≤◌, ltb, List, [], ◌∷◌, length, get_or, drop, None, refl, ◌∙◌, arith}
use Rattle.std.proofs.lemmas.List.{at_drop_more}
use Rattle.std.proofs.lemmas.Grind.{common_steps}
use Rattle.std.proofs.lemmas.Bool.{le-ltb, and_right}
use Rattle.words.specs.Decimal.{digits, value, behind, decimal, longer}

-- more digits never make a number smaller
value_ge : (n : ℕ) (cs : List ℕ) → n ≤ value n cs
value_ge n [] = omega arith
value_ge n (c ∷ cs) = omega (arith, value_ge (n * 10 + (c - 48)) cs)

behind_over : (n : ℕ) (cs : List ℕ) → 2 ^ 64 ≤ n → behind n cs ≡ None
behind_over n cs h = rw (and_right (digits cs) (ltb (value n cs) (2 ^ 64)) (le-ltb (value n cs) (2 ^ 64) (omega (arith, value_ge n cs))))

pub decimal_is : (cs : List ℕ) → (length cs ≡ 0 → ⊥) → decimal cs ≡ behind 0 cs
decimal_is [] h = absurd (h refl)
decimal_is (c ∷ cs) h = refl

-- the next byte of a word: a digit that fits, or the end of it
module _ (n c : ℕ) (cs : List ℕ) where
  next_none : None ≡ longer n c → behind n (c ∷ cs) ≡ None
  next_none h = grind (arith, common_steps, behind_over (n * 10 + (c - 48)) cs)

-- the same at the place i of a word
module _ (cs : List ℕ) (n i : ℕ) (inside : i < length cs) where
  pub behind_none : None ≡ longer n (get_or cs i 0) → behind n (drop i cs) ≡ None
  behind_none h = at_drop_more (behind n) cs i 0 inside ∙ next_none n (get_or cs i 0) (drop (i + 1) cs) h
