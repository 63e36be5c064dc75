-- Lists by number: what stands at a place.
use Rattle.std.proofs.Common.{◌≡◌, ℕ, zero, suc, ◌<◌, ◌≤◌, true, false, cond, eqb, List, [], ◌∷◌, map, length, get_or, drop, set, Some, None, Option, sym, refl, ap, ◌∙◌, arith}
use Rattle.std.specs.Option.{option_map}
use Rattle.std.specs.List.{slice_get}
use Rattle.std.proofs.Math.Dec.{eqb-suc-zero, eqb-zero-suc, eqb-suc-suc}
use Rattle.store.specs.CellRules.{alter}

module _ {X : Type 0} where
  pub nth_set : (xs : List X) (i j : ℕ) (y : X) → i < length xs → slice_get (set xs i y) j ≡ cond (eqb i j) (Some y) (slice_get xs j)
  nth_set [] i j y h = absurd (omega arith)
  nth_set (x ∷ xs) zero zero y h = refl
  nth_set (x ∷ xs) zero (suc j) y h = rw (eqb-zero-suc j)
  nth_set (x ∷ xs) (suc i) zero y h = rw (eqb-suc-zero i)
  nth_set (x ∷ xs) (suc i) (suc j) y h = nth_set xs i j y (omega arith) ∙ ap (λ b. cond b (Some y) (slice_get xs j)) (sym (eqb-suc-suc i j))

  pub nth_alter : (f : X → X) (xs : List X) (i j : ℕ) → slice_get (alter f xs i) j ≡ cond (eqb i j) (option_map f (slice_get xs j)) (slice_get xs j)
  nth_alter f [] i j = elim (eqb i j) as (λ b. ◌≡◌ {A = Option X} None (cond b None None)) [ true ↦ refl | false ↦ refl ]
  nth_alter f (x ∷ xs) zero zero = refl
  nth_alter f (x ∷ xs) zero (suc j) = rw (eqb-zero-suc j)
  nth_alter f (x ∷ xs) (suc i) zero = rw (eqb-suc-zero i)
  nth_alter f (x ∷ xs) (suc i) (suc j) = nth_alter f xs i j ∙ ap (λ b. cond b (option_map f (slice_get xs j)) (slice_get xs j)) (sym (eqb-suc-suc i j))

  pub length-alter : (f : X → X) (xs : List X) (i : ℕ) → length (alter f xs i) ≡ length xs
  length-alter f [] i = refl
  length-alter f (x ∷ xs) zero = refl
  length-alter f (x ∷ xs) (suc i) = ap suc (length-alter f xs i)

  -- what stands below the length
  pub nth_there : (xs : List X) (i : ℕ) → i < length xs → (x : X) × (slice_get xs i ≡ Some x)
  nth_there [] i h = absurd (omega arith)
  nth_there (x ∷ xs) zero h = (x, refl)
  nth_there (x ∷ xs) (suc i) h = nth_there xs i (omega arith)

  -- lists with the same elements are one
  pub ext_nth : (xs ys : List X) → length xs ≡ length ys → ((j : ℕ) (x y : X) → slice_get xs j ≡ Some x → slice_get ys j ≡ Some y → x ≡ y) → xs ≡ ys
  ext_nth [] [] long same = refl
  ext_nth [] (y ∷ ys) long same = absurd (omega arith)
  ext_nth (x ∷ xs) [] long same = absurd (omega arith)
  ext_nth (x ∷ xs) (y ∷ ys) long same =
      let rest = ext_nth xs ys (omega arith) (λ j a b p q. same (suc j) a b p q) in
      let head = same 0 x y refl refl in
      cc

  pub get_d_set : (xs : List X) (i j : ℕ) (y d : X) → i < length xs → get_or (set xs i y) j d ≡ cond (eqb i j) y (get_or xs j d)
  get_d_set [] i j y d h = absurd (omega arith)
  get_d_set (x ∷ xs) zero zero y d h = refl
  get_d_set (x ∷ xs) zero (suc j) y d h = rw (eqb-zero-suc j)
  get_d_set (x ∷ xs) (suc i) zero y d h = rw (eqb-suc-zero i)
  get_d_set (x ∷ xs) (suc i) (suc j) y d h = get_d_set xs i j y d (omega arith) ∙ ap (λ b. cond b y (get_or xs j d)) (sym (eqb-suc-suc i j))

module _ {X Y : Type 0} where
  -- functions that agree on the elements give one list
  pub map_same : (f g : X → Y) (xs : List X) → ((j : ℕ) (x : X) → slice_get xs j ≡ Some x → f x ≡ g x) → map f xs ≡ map g xs
  map_same f g [] same = refl
  map_same f g (x ∷ xs) same =
      let rest = map_same f g xs (λ j a p. same (suc j) a p) in
      let head = same 0 x refl in
      cc

  -- an altered element that shows the same
  pub map-alter : (g : X → Y) (f : X → X) (xs : List X) (i : ℕ) → ((x : X) → slice_get xs i ≡ Some x → g (f x) ≡ g x) → map g (alter f xs i) ≡ map g xs
  map-alter g f [] i same = refl
  map-alter g f (x ∷ xs) zero same = ap (λ y. y ∷ map g xs) (same x refl)
  map-alter g f (x ∷ xs) (suc i) same = ap (λ ys. g x ∷ ys) (map-alter g f xs i same)

  -- of which those before the place d do not count
  pub drop-map-alter : (g : X → Y) (f : X → X) (d : ℕ) (xs : List X) (i : ℕ) → ((x : X) → slice_get xs i ≡ Some x → d ≤ i → g (f x) ≡ g x)
      → drop d (map g (alter f xs i)) ≡ drop d (map g xs)
  drop-map-alter g f zero xs i same = map-alter g f xs i (λ x p. same x p (omega arith))
  drop-map-alter g f (suc d) [] i same = refl
  drop-map-alter g f (suc d) (x ∷ xs) zero same = refl
  drop-map-alter g f (suc d) (x ∷ xs) (suc i) same = drop-map-alter g f d xs i (λ y p h. same y p (omega arith))

  pub map-drop-same : (f g : X → Y) (d : ℕ) (xs : List X) → ((j : ℕ) (x : X) → slice_get xs j ≡ Some x → d ≤ j → f x ≡ g x) → drop d (map f xs) ≡ drop d (map g xs)
  map-drop-same f g zero xs same = map_same f g xs (λ j x p. same j x p (omega arith))
  map-drop-same f g (suc d) [] same = refl
  map-drop-same f g (suc d) (x ∷ xs) same = map-drop-same f g d xs (λ j y p h. same (suc j) y p (omega arith))
