-- A call on the state shows in the meaning: refused alike, or both go on.
use Rattle.std.proofs.Common.{◌≡◌, Some, None, Option, Result, refl, subst}
use Rattle.keepers.specs.declared.faults.KeeperFault.{KeeperFault}
use Rattle.keepers.specs.Calls.{judged}

module _ {S M : Type 0} (F : S → M) (V : S → Type 0) where
  -- what a call owes that answered r and left the state t, where its definition on meanings gives d
  abbrev pub Shows : {A : Type 0} → A → S → A × M → Type 0
  Shows r t d = V t × (d ≡ (r, F t))

  pub shown : {A : Type 0} (p : A × S) (d : A × M) → V p.1 → d ≡ (p.0, F p.1) → (r : A) (t : S) → p ≡ (r, t) → Shows r t d
  shown {A} p d v e r t is = subst (λ (q : A × S). V q.1 × (d ≡ (q.0, F q.1))) is (v, e)

  pub refines : {A : Type 0} (R R' : Option KeeperFault) (a : A) (new old : S) (new' : M) → R' ≡ R → V old → (R ≡ None → V new × (new' ≡ F new))
      → (r : Result A KeeperFault) (t : S) → judged R a new old ≡ (r, t) → Shows r t (judged R' a new' (F old))
  refines None R' a new old new' same v goes r t is =
      let on = goes refl in
      shown (judged None a new old) (judged R' a new' (F old)) on.0 (rw (same, on.1)) r t is
  refines (Some fault) R' a new old new' same v goes r t is = shown (judged (Some fault) a new old) (judged R' a new' (F old)) v (rw same) r t is
