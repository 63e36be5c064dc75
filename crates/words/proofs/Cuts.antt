-- A cut at the first mark, which `position` finds.
use Rattle.std.proofs.Common.{◌≡◌, ℕ, suc, ◌+◌, ◌<◌, ◌≤◌, eqb, List, [], ◌∷◌, length, take, drop, Some, None, refl, inl, inr, arith}
use Rattle.std.specs.List.{position, position_or_len, before_first, after_first}
use Rattle.std.proofs.lemmas.Grind.{common_steps}
use Rattle.std.proofs.lemmas.Bool.{cases_Bool}
use Rattle.words.specs.Pieces.{before, beyond, pieces, onto_first}

one_more : (n : ℕ) → 1 + n ≡ suc n
one_more n = omega arith

two_more : (n : ℕ) → 1 + n + 1 ≡ suc (n + 1)
two_more n = omega arith

before_is : (mark : ℕ) (bs : List ℕ) → before mark bs ≡ before_first (λ c. eqb c mark) bs
before_is mark [] = refl
before_is mark (b ∷ bs) = elim (cases_Bool (eqb b mark)) [ inl t ↦ rw t refl | inr f ↦ rw (f, before_is mark bs, one_more (position_or_len (λ c. eqb c mark) bs)) refl ]

beyond_is : (mark : ℕ) (bs : List ℕ) → beyond mark bs ≡ after_first (λ c. eqb c mark) bs
beyond_is mark [] = refl
beyond_is mark (b ∷ bs) = elim (cases_Bool (eqb b mark)) [ inl t ↦ rw t refl | inr f ↦ rw (f, beyond_is mark bs, two_more (position_or_len (λ c. eqb c mark) bs)) refl ]

module _ (mark : ℕ) (bs : List ℕ) where
  pub cut_some : (i : ℕ) → Some i ≡ position (λ c. eqb c mark) bs → (before mark bs ≡ take i bs) × (beyond mark bs ≡ drop (i + 1) bs)
  cut_some i e = grind (arith, common_steps, before_is mark bs, beyond_is mark bs)

  pub cut_none : None ≡ position (λ c. eqb c mark) bs → (before mark bs ≡ bs) × (beyond mark bs ≡ [])
  cut_none e = grind (arith, common_steps, before_is mark bs, beyond_is mark bs)

-- the first piece goes as far as the first mark, and the others come from behind it
pub first_piece : (mark : ℕ) (b : ℕ) (bs : List ℕ) → pieces mark (b ∷ bs) ≡ before mark (b ∷ bs) ∷ pieces mark (beyond mark (b ∷ bs))
first_piece mark b [] = elim (cases_Bool (eqb b mark)) [ inl t ↦ rw t refl | inr f ↦ rw f refl ]
first_piece mark b (c ∷ cs) = elim (cases_Bool (eqb b mark)) [ inl t ↦ rw t refl | inr f ↦ rw (f, first_piece mark c cs) refl ]

pub next_piece : (mark : ℕ) (bs : List ℕ) → 0 < length bs → pieces mark bs ≡ before mark bs ∷ pieces mark (beyond mark bs)
next_piece mark [] h = absurd (omega arith)
next_piece mark (b ∷ bs) h = first_piece mark b bs

pub fewer_pieces : (mark : ℕ) (bs : List ℕ) → 0 < length bs → length (pieces mark (beyond mark bs)) < length (pieces mark bs)
fewer_pieces mark bs some = rw (next_piece mark bs some) (omega arith)

-- a piece has a byte or a mark of its own
first_longer : (b : ℕ) (ps : List (List ℕ)) → length (onto_first b ps) ≤ length ps + 1
first_longer b [] = omega arith
first_longer b (p ∷ ps) = omega arith

pub few_pieces : (mark : ℕ) (bs : List ℕ) → length (pieces mark bs) ≤ length bs
few_pieces mark [] = omega arith
few_pieces mark (b ∷ bs) = elim (cases_Bool (eqb b mark)) [
  | inl t ↦ rw t (omega (arith, few_pieces mark bs))
  | inr f ↦ rw f (omega (arith, few_pieces mark bs, first_longer b (pieces mark bs)))
]
