-- Begin on the state is begin on the meaning.
use Rattle.std.proofs.Common.{◌≡◌, ℕ, ◌<◌, Bool, true, false, ◌&&◌, leb, [], ◌∷◌, length, set, is_some, Some, None, Option, Result, refl, ◌∙◌, arith}
use Rattle.std.specs.Option.{option_map}
use Rattle.std.proofs.lemmas.List.{length-set}
use Rattle.lines.specs.Changing.{Outcome}
use Rattle.keepers.specs.declared.clocks.Clock.{Clock}
use Rattle.keepers.specs.declared.faults.KeeperFault.{KeeperFault}
use Rattle.keepers.specs.declared.faults.KeeperFault.TheVariants.{NoSuchSeat, SeatOpen, Quiet}
use Rattle.keepers.specs.declared.stages.Stage.{Stage}
use Rattle.keepers.specs.declared.stages.Stage.TheVariants.{Called}
use Rattle.keepers.specs.Calls.{begins, first, with_seat}
use Rattle.keepers.specs.Meanings.{Hand, names, changes_of_hand}
use Rattle.keepers.specs.Methods.{Method, began_in}
use Rattle.keepers.specs.Stages.{same, allowed}
use Rattle.store.specs.States.{State, meaning}
use Rattle.store.specs.Steps.{hand_at, with_hand, begun}
use Rattle.store.specs.Validity.{part, Valid}
use Rattle.store.proofs.Judging.{Shows, refines}
use Rattle.store.proofs.Reseating.{passed, seat_within, all-seats, part_frame}
use Rattle.store.proofs.Seeing.{sits_frame}

begin_allowed : (quiet : Bool) (g : Stage) → (quiet && same g Called) ≡ false → allowed quiet g g ≡ true
begin_allowed quiet g e = grind arith

shut_part : (h : Option Hand) (j : ℕ) → is_some h ≡ false → None ≡ part j h
shut_part h j e = grind arith

module _ {L O : Type 0} (m : Method L O) (sound : Clock → Bool → Option Stage → L → O → Type 0) (f : L → ℕ → ℕ → Outcome L) (s : ℕ) (t : State L O) (v : Valid m sound f t) where
  abbrev newly : Option Hand
  newly = Some (record { began = t.clock.stage; changes = [] })

  opens : leb 16 s ≡ false → is_some (hand_at t s) ≡ false → (m.quiet && same t.clock.stage Called) ≡ false → Valid m sound f (with_hand s newly t)
  opens seated shut loud =
      let within = seat_within t.seats s v.sixteen seated in
      record {
        sixteen = length-set t.seats s newly ∙ v.sixteen;
        counts = v.counts;
        began = all-seats t.seats s within newly (λ h. began_in m.quiet t.clock.stage (option_map (λ w. w.began) h) ≡ true) (begin_allowed m.quiet t.clock.stage loud) v.began;
        inside = all-seats t.seats s within newly (λ h. (j : ℕ) → names (changes_of_hand h) j ≡ true → j < length t.cells)
            (λ j e. absurd (cc)) v.inside;
        sits = λ j x there.
            sits_frame m sound f t.seats (set t.seats s newly) t.clock (leb t.given j) j x.own x.holder x.before
            (part_frame t.seats s within newly j (shut_part (hand_at t s) j shut)) (v.sits j x there);
      }

  pub begins_shown : (r : Result (Unit {0}) KeeperFault) (u : State L O) → begun m s t ≡ (r, u) → Shows (meaning m) (Valid m sound f) r u (begins m.quiet s (meaning m t))
  begins_shown r u e =
      let R = first ((leb 16 s, NoSuchSeat s) ∷ (is_some (hand_at t s), SeatOpen s) ∷ (m.quiet && same t.clock.stage Called, Quiet s) ∷ []) None in
      refines (meaning m) (Valid m sound f) R R tt (with_hand s newly t) t (with_seat s newly (meaning m t)) refl v
      (λ none.
      let seat = passed (leb 16 s) (NoSuchSeat s) (first ((is_some (hand_at t s), SeatOpen s) ∷ (m.quiet && same t.clock.stage Called, Quiet s) ∷ []) None) none in
      let shut = passed (is_some (hand_at t s)) (SeatOpen s) (first ((m.quiet && same t.clock.stage Called, Quiet s) ∷ []) None) seat.1 in
      let loud = passed (m.quiet && same t.clock.stage Called) (Quiet s) None shut.1 in
      (opens seat.0 shut.0 loud.0, refl))
      r u e
