-- The first place that a test holds of, as the library's `position` finds it.
use Rattle.std.proofs.Common.{◌≡◌, Bool, List, [], ◌∷◌, map, refl, arith}
use Rattle.std.specs.List.{position}
use Rattle.keepers.specs.Calls.{lowest}

pub lowest-map : {A B : Type 0} (p : B → Bool) (f : A → B) (xs : List A) → lowest p (map f xs) ≡ position (λ x. p (f x)) xs
lowest-map p f [] = refl
lowest-map p f (x ∷ xs) = grind (arith, lowest-map p f xs)
