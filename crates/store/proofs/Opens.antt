-- A new store is valid, and means a new keeper.
use Rattle.std.proofs.Common.{◌≡◌, ℕ, zero, suc, Bool, true, false, leb, List, map, length, get_or, replicate, Some, None, Option, sym, refl, ap, ◌∙◌, subst, arith}
use Rattle.std.specs.Option.{option_map}
use Rattle.std.specs.List.{slice_get}
use Rattle.std.proofs.lemmas.List.{length-map, drop_all, map-id}
use Rattle.std.proofs.lemmas.Bool.{lt-leb}
use Rattle.lines.specs.Changing.{Outcome}
use Rattle.std.proofs.lemmas.Option.{slice_get_within}
use Rattle.std.proofs.lemmas.Simd.{map-map}
use Rattle.keepers.specs.declared.clocks.Clock.{Clock}
use Rattle.keepers.specs.declared.stages.Stage.{Stage}
use Rattle.keepers.specs.declared.stages.Stage.TheVariants.{Rest}
use Rattle.keepers.specs.Clocks.{start}
use Rattle.keepers.specs.Meanings.{Hand, names, changes_of_hand, opened}
use Rattle.keepers.specs.Methods.{Method, Lawful, began_in}
use Rattle.store.specs.declared.cells.Cell.{Cell}
use Rattle.store.specs.CellRules.{fresh_cell, committed_of, named_of, due_of}
use Rattle.store.specs.States.{meaning}
use Rattle.store.specs.Steps.{new_state}
use Rattle.store.specs.Validity.{part, Sits, Valid}
use Rattle.store.proofs.Numbering.{map_same}
use Rattle.store.proofs.Seeing.{nth_of_map}

all_shut : (n s : ℕ) → get_or (replicate {A = Option Hand} n None) s None ≡ None
all_shut zero s = refl
all_shut (suc n) zero = refl
all_shut (suc n) (suc s) = all_shut n s

module _ {L O : Type 0} (m : Method L O) (sound : Clock → Bool → Option Stage → L → O → Type 0) (law : Lawful m sound) (f : L → ℕ → ℕ → Outcome L) (ls : List L) where
  sits-new : (j : ℕ) (x : Cell L O) → slice_get (map (fresh_cell m) ls) j ≡ Some x
      → Sits m sound f (replicate 16 None) start (leb (length ls) j) j x.own x.holder x.before
  sits-new j x e =
      let y = nth_of_map (fresh_cell m) ls j x e in
      let out : false ≡ leb (length ls) j = let inside = slice_get_within ls j y.0 y.1 in sym (lt-leb (length ls) j inside) in
      subst (λ w. Sits m sound f (replicate 16 None) start (leb (length ls) j) j w.own w.holder w.before) y.2
      (record { parts = λ s. ap (part j) (all_shut 16 s); is_sound = subst (λ b. sound start b None y.0 (m.fresh y.0)) out (law.fresh_is y.0).sound_is })

  pub valid_new : Valid m sound f (new_state m ls)
  valid_new = record {
    sixteen = refl;
    counts = sym (length-map ls (fresh_cell m));
    began = λ s. ap (λ h. began_in m.quiet Rest (option_map (λ w. w.began) h)) (all_shut 16 s);
    inside = λ s j named.
        let e : names (changes_of_hand None) j ≡ true = ap (λ h. names (changes_of_hand h) j) (sym (all_shut 16 s)) ∙ named in
        absurd (cc);
    sits = sits-new;
  }

  pub meaning-new : meaning m (new_state m ls) ≡ opened ls
  meaning-new =
      let lines = map-map (committed_of m) (fresh_cell m) ls ∙ map_same (λ x. committed_of m (fresh_cell m x)) (λ x. x) ls (λ j x there. (law.fresh_is x).live_is) ∙ map-id ls in
      let named = map-map (named_of m start) (fresh_cell m) ls ∙ map_same (λ x. named_of m start (fresh_cell m x)) (λ x. false) ls (λ j x there. (law.fresh_is x).named_is) in
      let due = drop_all (length ls) (map (due_of m start) (map (fresh_cell m) ls))
      (omega (arith, length-map (map (fresh_cell m) ls) (due_of m start), length-map ls (fresh_cell m))) in
      rw (lines, named, due)
