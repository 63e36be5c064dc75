-- One seat altered.
use Rattle.std.proofs.Common.{◌≡◌, ℕ, ◌<◌, Bool, true, false, cond, not, eqb, leb, List, length, get_or, set, is_some, Some, None, Option, sym, refl, ap, ◌∙◌, subst, inl, inr, arith}
use Rattle.std.proofs.lemmas.Bool.{eqb-true, cases_Bool, leb-false}
use Rattle.keepers.specs.declared.faults.KeeperFault.{KeeperFault}
use Rattle.keepers.specs.Meanings.{Hand}
use Rattle.store.specs.Validity.{part}
use Rattle.store.proofs.Numbering.{get_d_set}

-- a row of refusals that was passed
pub passed : (b : Bool) (x : KeeperFault) (r : Option KeeperFault) → cond b (Some x) r ≡ None → (b ≡ false) × (r ≡ None)
passed true x r e = absurd (cc)
passed false x r e = (refl, e)

pub open_hand : (h : Option Hand) → not (is_some h) ≡ false → (g : Hand) × (h ≡ Some g)
open_hand None e = absurd (cc)
open_hand (Some g) e = (g, refl)

pub seat_within : (hs : List (Option Hand)) (s : ℕ) → length hs ≡ 16 → leb 16 s ≡ false → s < length hs
seat_within hs s sixteen e = omega (arith, leb-false 16 s e)

module _ (hs : List (Option Hand)) (s : ℕ) (within : s < length hs) (h : Option Hand) where
  -- what holds of the seat's new hand and held of all holds of all again
  pub all-seats : (P : Option Hand → Type 0) → P h → ((r : ℕ) → P (get_or hs r None)) → (r : ℕ) → P (get_or (set hs s h) r None)
  all-seats P new old r = elim (cases_Bool (eqb s r)) [
    | inl same ↦ subst P (sym (get_d_set hs s r h None within ∙ ap (λ b. cond b h (get_or hs r None)) same)) new
    | inr other ↦ subst P (sym (get_d_set hs s r h None within ∙ ap (λ b. cond b h (get_or hs r None)) other)) (old r)
  ]

  -- a line of which the new hand has the same part as the old cannot tell
  pub part_frame : (j : ℕ) → part j h ≡ part j (get_or hs s None) → (r : ℕ) → part j (get_or (set hs s h) r None) ≡ part j (get_or hs r None)
  part_frame j like r = elim (cases_Bool (eqb s r)) [
    | inl same ↦ ap (part j) (get_d_set hs s r h None within ∙ ap (λ b. cond b h (get_or hs r None)) same) ∙ like ∙ ap (λ q. part j (get_or hs q None)) (eqb-true s r same)
    | inr other ↦ ap (part j) (get_d_set hs s r h None within ∙ ap (λ b. cond b h (get_or hs r None)) other)
  ]
