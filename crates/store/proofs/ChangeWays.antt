-- What a change comes to, way by way.
use Rattle.std.proofs.Common.{◌≡◌, ℕ, true, false, ltb, leb, List, length, set, Some, None, Ok, Err, Option, refl, ap, arith}
use Rattle.std.specs.List.{slice_get}
use Rattle.std.proofs.lemmas.Bool.{lt-leb, le-leb, ltb-true, ltb-false}
use Rattle.lines.specs.declared.changes.Change.{Change}
use Rattle.lines.specs.declared.faults.LineFault.{LineFault}
use Rattle.lines.specs.declared.faults.LineFault.TheVariants.{NoSuchLine}
use Rattle.lines.specs.Changing.{Outcome}
use Rattle.lines.specs.Numbered.{change}
use Rattle.records.specs.Commands.{pushed}
use Rattle.std.proofs.lemmas.Option.{slice_get_within}
use Rattle.keepers.specs.declared.faults.KeeperFault.{KeeperFault}
use Rattle.keepers.specs.declared.faults.KeeperFault.TheVariants.{Held, FifthChange, Line}
use Rattle.keepers.specs.Calls.{judged}
use Rattle.keepers.specs.Meanings.{Hand}
use Rattle.keepers.specs.Methods.{Method}
use Rattle.store.specs.declared.cells.Cell.{Cell}
use Rattle.store.specs.CellRules.{elsewhere, changed_cell}
use Rattle.store.specs.States.{State}
use Rattle.store.specs.Steps.{hand_at, Seated, cell_of, changed, changed_state, with_cells}
use Rattle.store.proofs.Altering.{alter-set, nth_none}

-- what finding a cell says of it
pub found_cell : {L O : Type 0} (i : ℕ) (x : Cell L O) (o : Option (Cell L O)) → Ok x ≡ cell_of i o → o ≡ Some x
found_cell i x o e = grind arith

pub no_cell : {L O : Type 0} (i : ℕ) (fault : LineFault) (o : Option (Cell L O)) → Err fault ≡ cell_of i o → (o ≡ None) × (fault ≡ NoSuchLine i)
no_cell i fault None e = (refl, cc)
no_cell i fault (Some y) e = absurd (cc)

pub unseated : {L O : Type 0} (m : Method L O) (f : L → ℕ → ℕ → Outcome L) (s : ℕ) (c : Change) (t : State L O) (fault : KeeperFault) → Seated (Err fault) s t
    → changed m f s c t ≡ (Err fault, t)
unseated m f s c t fault refuses = ap (λ r. judged r tt (changed_state m f s c t) t) (refuses _)

module _ {L O : Type 0} (m : Method L O) (f : L → ℕ → ℕ → Outcome L) (s : ℕ) (c : Change) (t : State L O) (h : Hand) (seated : leb 16 s ≡ false) (opened : hand_at t s ≡ Some h) where
  pub no_line : (fault : LineFault) → Err fault ≡ cell_of c.line (slice_get t.cells c.line) → changed m f s c t ≡ (Err (Line fault), t)
  no_line fault e =
      let none = no_cell c.line fault (slice_get t.cells c.line) e in
      let past = le-leb (length t.cells) c.line (nth_none t.cells c.line none.0) in
      rw (seated, opened, past, none.1)

  module _ (x : Cell L O) (there : slice_get t.cells c.line ≡ Some x) where
    inside : leb (length t.cells) c.line ≡ false
    inside = lt-leb (length t.cells) c.line (slice_get_within t.cells c.line x there)

    fewer : ltb (length h.changes) 4 ≡ true → leb 4 (length h.changes) ≡ false
    fewer room = lt-leb 4 (length h.changes) (ltb-true (length h.changes) 4 room)

    pub held : elsewhere x.holder s ≡ true → changed m f s c t ≡ (Err (Held c.line), t)
    held e = rw (seated, opened, inside, there, e)

    pub fifth : elsewhere x.holder s ≡ false → ltb (length h.changes) 4 ≡ false → changed m f s c t ≡ (Err (FifthChange s), t)
    fifth e full = let four = le-leb 4 (length h.changes) (ltb-false (length h.changes) 4 full) in rw (seated, opened, inside, there, e, four)

    pub refused : elsewhere x.holder s ≡ false → ltb (length h.changes) 4 ≡ true → (fault : LineFault) → change f (m.live x.own) c ≡ Err fault
        → changed m f s c t ≡ (Err (Line fault), t)
    refused e room fault r = rw (seated, opened, inside, there, e, fewer room, r)

    -- u is the state once the cell is written, hs the seats after that, and cs the changes that then stand in the seat
    pub accepted : elsewhere x.holder s ≡ false → ltb (length h.changes) 4 ≡ true → (y : L) → change f (m.live x.own) c ≡ Ok y
        → (u : State L O) (hs : List (Option Hand)) (cs : List Change) → u ≡ with_cells (set t.cells c.line (changed_cell m t.clock s h.began y x)) t
        → hs ≡ set u.seats s (Some (record { began = h.began; changes = cs })) → cs ≡ pushed h.changes c
        → changed m f s c t ≡ (Ok tt, record { cells = u.cells; seats = hs; clock = u.clock; given = u.given })
    accepted e room y r u hs cs is_u is_hs is_cs =
        let cells = alter-set (changed_cell m t.clock s h.began y) t.cells c.line x there in
        rw (is_hs, is_cs, is_u, room, seated, opened, inside, there, e, fewer room, r, cells)
