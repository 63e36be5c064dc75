-- Changes made in order, line by line: the lines after a seat's changes are what each line's own changes make of it.
use Rattle.std.proofs.Common.{◌≡◌, ℕ, ◌<◌, true, cond, ◌||◌, eqb, List, [], ◌∷◌, ◌++◌, length, set, Some, Ok, Err, Result, sym, refl, ap, ◌∙◌, inl, inr, arith}
use Rattle.std.specs.List.{slice_get}
use Rattle.std.proofs.lemmas.List.{length-set}
use Rattle.std.proofs.lemmas.Bool.{or_right, eq-eqb, eqb-true, cases_Bool}
use Rattle.lines.specs.declared.changes.Change.{Change}
use Rattle.lines.specs.declared.faults.LineFault.{LineFault}
use Rattle.lines.specs.Changing.{Outcome}
use Rattle.lines.specs.Numbered.{change, make, after}
use Rattle.lines.proofs.Making.{after_make}
use Rattle.keepers.specs.Meanings.{names}
use Rattle.store.specs.Validity.{ran, only}
use Rattle.store.proofs.Numbering.{nth_set, nth_there, ext_nth}

module _ {L : Type 0} (f : L → ℕ → ℕ → Outcome L) where
  pub ran_more : (r : Result L LineFault) (cs : List Change) (c : Change) → ran f r (cs ++ c ∷ []) ≡ ran f (ran f r cs) (c ∷ [])
  ran_more r [] c = refl
  ran_more (Err fault) (d ∷ cs) c = refl
  ran_more (Ok x) (d ∷ cs) c = ran_more (change f x d) cs c

  ran_err : (fault : LineFault) (cs : List Change) → ran f (Err fault) cs ≡ Err fault
  ran_err fault [] = refl
  ran_err fault (c ∷ cs) = refl

  -- what comes out well began well
  ran_ok : (r : Result L LineFault) (cs : List Change) (y : L) → ran f r cs ≡ Ok y → (x : L) × (r ≡ Ok x)
  ran_ok (Ok x) cs y e = (x, refl)
  ran_ok (Err fault) cs y e = let bad = ran_err fault cs in absurd (cc)

  -- a change on a line that takes it
  make_there : (ls : List L) (c : Change) (x z : L) → slice_get ls c.line ≡ Some x → change f x c ≡ Ok z → make f ls c ≡ Ok (set ls c.line z)
  make_there ls c x z there takes = rw (there, takes)

  -- the lines ys are what the changes cs make of the lines ls, each of its own
  abbrev pub Runs : List L → List Change → List L → Type 0
  Runs ls cs ys = (j : ℕ) (x y : L) → slice_get ls j ≡ Some x → slice_get ys j ≡ Some y → ran f (Ok x) (only j cs) ≡ Ok y

  -- one change made, the others still run
  runs_on : (c : Change) (cs : List Change) (ls ys : List L) (a b z : L) → c.line < length ls → slice_get ls c.line ≡ Some a → slice_get ys c.line ≡ Some b → change f a c ≡ Ok z
      → ran f (Ok z) (only c.line cs) ≡ Ok b → Runs ls (c ∷ cs) ys → Runs (set ls c.line z) cs ys
  runs_on c cs ls ys a b z within old new taken here runs j x y p q = elim (cases_Bool (eqb c.line j)) [
    | inl same ↦
        let one = eqb-true c.line j same in
        let at_x : Some z ≡ Some x = ap (λ t. cond t (Some z) (slice_get ls j)) (sym same) ∙ sym (nth_set ls c.line j z within) ∙ p in
        let at_y : Some b ≡ Some y = sym new ∙ ap (slice_get ys) one ∙ q in
        let line : ran f (Ok z) (only j cs) ≡ Ok b = ap (λ i. ran f (Ok z) (only i cs)) (sym one) ∙ here in
        let is_x : z ≡ x = cc in
        let is_y : b ≡ y = cc in
        ap (λ v. ran f (Ok v) (only j cs)) (sym is_x) ∙ line ∙ ap (λ v. Ok v) is_y
    | inr other ↦
        let at_x : slice_get ls j ≡ Some x = ap (λ t. cond t (Some z) (slice_get ls j)) (sym other) ∙ sym (nth_set ls c.line j z within) ∙ p in
        ap (λ t. ran f (Ok x) (cond t (c ∷ only j cs) (only j cs))) (sym other) ∙ runs j x y at_x q
  ]

  pub after_lines : (cs : List Change) (ls ys : List L) → length ls ≡ length ys → ((j : ℕ) → names cs j ≡ true → j < length ls) → Runs ls cs ys → after f ls cs ≡ ys
  after_lines [] ls ys long inside runs = ext_nth ls ys long (λ j x y p q. let e = runs j x y p q in cc)
  after_lines (c ∷ cs) ls ys long inside runs =
      let i = c.line in
      let one : eqb i i ≡ true = eq-eqb i i refl in
      let within : i < length ls = inside i (ap (λ b. b || names cs i) one) in
      let old = nth_there ls i within in
      let new = nth_there ys i (omega arith) in
      let here : ran f (change f old.0 c) (only i cs) ≡ Ok new.0 = ap (λ b. ran f (Ok old.0) (cond b (c ∷ only i cs) (only i cs))) (sym one) ∙ runs i old.0 new.0 old.1 new.1 in
      let taken = ran_ok (change f old.0 c) (only i cs) new.0 here in
      let made = after_make f ls c cs (Ok (set ls i taken.0)) (make_there ls c old.0 taken.0 old.1 taken.1) in
      made
      ∙ after_lines cs (set ls i taken.0) ys (length-set ls i taken.0 ∙ long) (λ j p. let h = inside j (or_right (eqb i j) (names cs j) p) in omega (arith, h, length-set ls i taken.0))
      (runs_on c cs ls ys old.0 new.0 taken.0 within old.1 new.1 taken.1 (ap (λ r. ran f r (only i cs)) (sym taken.1) ∙ here) runs)
