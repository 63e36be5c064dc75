-- One element of a list altered.
use Rattle.std.proofs.Common.{◌≡◌, ℕ, zero, suc, ◌≤◌, List, [], ◌∷◌, length, set, Some, None, refl, ap, arith}
use Rattle.std.specs.List.{slice_get}
use Rattle.store.specs.CellRules.{alter}

module _ {X : Type 0} (f : X → X) where
  pub alter-set : (xs : List X) (i : ℕ) (x : X) → slice_get xs i ≡ Some x → alter f xs i ≡ set xs i (f x)
  alter-set [] i x e = refl
  alter-set (y ∷ xs) zero x e = let same : y ≡ x = cc in ap (λ z. f z ∷ xs) same
  alter-set (y ∷ xs) (suc i) x e = ap (λ zs. y ∷ zs) (alter-set xs i x e)

  pub alter_past : (xs : List X) (i : ℕ) → slice_get xs i ≡ None → alter f xs i ≡ xs
  alter_past [] i e = refl
  alter_past (y ∷ xs) zero e = absurd (cc)
  alter_past (y ∷ xs) (suc i) e = ap (λ zs. y ∷ zs) (alter_past xs i e)

pub nth_none : {X : Type 0} (xs : List X) (i : ℕ) → slice_get xs i ≡ None → length xs ≤ i
nth_none [] i e = omega arith
nth_none (y ∷ xs) zero e = absurd (cc)
nth_none (y ∷ xs) (suc i) e = omega (arith, nth_none xs i e)
