-- What of a seat is about one line.
use Rattle.std.proofs.Common.{◌≡◌, ℕ, zero, suc, Bool, true, false, cond, ◌||◌, eqb, List, [], ◌∷◌, ◌++◌, get_or, Some, None, Option, sym, refl, ap, ◌∙◌, inl, inr, arith}
use Rattle.std.proofs.lemmas.Bool.{cases_Bool, true≢false}
use Rattle.lines.specs.declared.changes.Change.{Change}
use Rattle.keepers.specs.Meanings.{Hand, names, any, changes_of_hand}
use Rattle.store.specs.Validity.{only, part}

-- tests joined by or
pub or_false : (b : Bool) → (b || false) ≡ b
or_false b = grind arith

pub only_none : (cs : List Change) (j : ℕ) → names cs j ≡ false → only j cs ≡ []
only_none [] j e = refl
only_none (c ∷ cs) j e = here (eqb c.line j) (only_none cs j) e
  where
    here : (b : Bool) → (names cs j ≡ false → only j cs ≡ []) → (b || names cs j) ≡ false → cond b (c ∷ only j cs) (only j cs) ≡ []
    here true rest e = absurd (cc)
    here false rest e = rest e

pub only_more : (cs : List Change) (c : Change) (j : ℕ) → only j (cs ++ c ∷ []) ≡ only j cs ++ only j (c ∷ [])
only_more [] c j = refl
only_more (d ∷ cs) c j = here (eqb d.line j) (only_more cs c j)
  where
    here : (b : Bool) → only j (cs ++ c ∷ []) ≡ only j cs ++ only j (c ∷ [])
        → cond b (d ∷ only j (cs ++ c ∷ [])) (only j (cs ++ c ∷ [])) ≡ cond b (d ∷ only j cs) (only j cs) ++ only j (c ∷ [])
    here true rest = ap (λ ds. d ∷ ds) rest
    here false rest = rest

pub names_more : (cs : List Change) (c : Change) (j : ℕ) → names (cs ++ c ∷ []) j ≡ (names cs j || eqb c.line j)
names_more [] c j = elim (eqb c.line j) as (λ b. (b || false) ≡ (false || b)) [ true ↦ refl | false ↦ refl ]
names_more (d ∷ cs) c j = ap (λ b. eqb d.line j || b) (names_more cs c j) ∙ elim (eqb d.line j) as (λ b. (b || (names cs j || eqb c.line j)) ≡ ((b || names cs j) || eqb c.line j)) [ true ↦ refl | false ↦ refl ]

abbrev whole_part : ℕ → Hand → Bool → Option Hand
whole_part j h b = cond b (Some (record { began = h.began; changes = only j h.changes })) None

-- no part of a seat is about the line: it names it in no change
pub part_none : (h : Option Hand) (j : ℕ) → part j h ≡ None → (names (changes_of_hand h) j ≡ false) × (only j (changes_of_hand h) ≡ [])
part_none None j e = (refl, refl)
part_none (Some h) j e = here (names h.changes j) refl e
  where
    here : (b : Bool) → names h.changes j ≡ b → whole_part j h b ≡ None
        → (names h.changes j ≡ false) × (only j h.changes ≡ [])
    here true is e = absurd (cc)
    here false is e = (is, only_none h.changes j is)

-- some part is: it is the seat's own
pub part_some : (h : Option Hand) (j : ℕ) (w : Hand) → part j h ≡ Some w
    → (names (changes_of_hand h) j ≡ true) × (only j (changes_of_hand h) ≡ w.changes) × ((g : Hand) → h ≡ Some g → w.began ≡ g.began)
part_some None j w e = absurd (cc)
part_some (Some h) j w e = here (names h.changes j) refl e
  where
    here : (b : Bool) → names h.changes j ≡ b → whole_part j h b ≡ Some w
        → (names h.changes j ≡ true) × (only j h.changes ≡ w.changes) × ((g : Hand) → Some h ≡ Some g → w.began ≡ g.began)
    here true is e =
        let same : ◌≡◌ {A = Hand} (record { began = h.began; changes = only j h.changes }) w = cc in
        (is, ap (λ v. v.changes) same, λ g p. let own : h ≡ g = cc in sym (ap (λ v. v.began) same) ∙ ap (λ v. v.began) own)
    here false is e = absurd (cc)

-- a test that no element meets, and one that an element meets
module _ {X : Type 0} (p : Option X → Bool) where
  pub any_none : (xs : List (Option X)) → ((s : ℕ) → p (get_or xs s None) ≡ false) → any p xs ≡ false
  any_none [] none = refl
  any_none (x ∷ xs) none = ap (λ b. b || any p xs) (none 0) ∙ any_none xs (λ s. none (suc s))

  pub any_some : (xs : List (Option X)) (t : ℕ) → p None ≡ false → p (get_or xs t None) ≡ true → any p xs ≡ true
  any_some [] t empty e = let z : true ≡ false = sym e ∙ empty in absurd (true≢false z)
  any_some (x ∷ xs) zero empty e = ap (λ b. b || any p xs) e
  any_some (x ∷ xs) (suc t) empty e = elim (cases_Bool (p x)) [ inl y ↦ ap (λ b. b || any p xs) y | inr n ↦ ap (λ b. b || any p xs) n ∙ any_some xs t empty e ]
