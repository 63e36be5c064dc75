-- The lawful front reaches to the first line that breaks the rule.
use Rattle.std.proofs.Common.{◌≡◌, ℕ, suc, ◌+◌, ◌≤◌, Bool, true, false, not, cond, ltb, List, [], ◌∷◌, length, Some, None, Option, refl, inl, inr, arith}
use Rattle.std.specs.List.{position_or_len}
use Rattle.std.specs.Option.{unwrap_or}
use Rattle.std.proofs.lemmas.Bool.{cases_Bool, ltb-false}
use Rattle.std.proofs.lemmas.List.Recursion.{is_position_or_len}
use Rattle.lines.specs.Numbered.{front}

one : (b : Bool) (n : ℕ) → cond b (suc n) 0 ≡ cond (not b) 0 (1 + n)
one true n = omega arith
one false n = refl

step_le : (b : Bool) (n m : ℕ) → n ≤ m → cond b (suc n) 0 ≤ suc m
step_le true n m h = omega arith
step_le false n m h = omega arith

module _ {L : Type 0} (keeps : L → Bool) where
  front_is : (ls : List L) → front keeps ls ≡ position_or_len (λ x. not (keeps x)) ls
  front_is = is_position_or_len (front keeps) (λ x. not (keeps x)) refl (λ x xs. one (keeps x) (front keeps xs))

  front_le : (ls : List L) → front keeps ls ≤ length ls
  front_le [] = omega arith
  front_le (x ∷ xs) = step_le (keeps x) (front keeps xs) (length xs) (front_le xs)

  -- where the first such line stands, or how many lines there are if there is none
  pub front_found : (ls : List L) (at : Option ℕ) → at ≡ cond (ltb (position_or_len (λ x. not (keeps x)) ls) (length ls)) (Some (position_or_len (λ x. not (keeps x)) ls)) None
      → unwrap_or at (length ls) ≡ front keeps ls
  front_found ls at found =
      let le = front_le ls in
      rw found (rw (← front_is ls) (elim (cases_Bool (ltb (front keeps ls) (length ls))) [
        | inl t ↦ rw t
        | inr f ↦ rw f (omega (arith, ltb-false (front keeps ls) (length ls) f))
      ]))
