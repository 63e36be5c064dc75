-- What opening comes to.
use Rattle.std.proofs.Common.{◌≡◌, ℕ, suc, ◌≤◌, Bool, true, false, cond, List, [], ◌∷◌, map, length, take, replicate, None, Option, arith}
use Rattle.std.proofs.lemmas.List.{length-take-le}
use Rattle.lines.specs.Numbered.{front}
use Rattle.keepers.specs.declared.clocks.Clock.{Clock}
use Rattle.keepers.specs.Clocks.{start}
use Rattle.keepers.specs.Meanings.{Hand}
use Rattle.keepers.specs.Methods.{Method}
use Rattle.store.specs.declared.cells.Cell.{Cell}
use Rattle.store.specs.CellRules.{fresh_cell}
use Rattle.store.specs.States.{State}
use Rattle.store.specs.Steps.{new_state}

pub front_within : {L : Type 0} (keeps : L → Bool) (ls : List L) → front keeps ls ≤ length ls
front_within keeps [] = omega arith
front_within keeps (x ∷ xs) = more (keeps x) (front_within keeps xs)
  where
    more : (b : Bool) → front keeps xs ≤ length xs → cond b (suc (front keeps xs)) 0 ≤ suc (length xs)
    more true h = omega arith
    more false h = omega arith

module _ {L O : Type 0} (m : Method L O) (opening : List L) (k : ℕ) (inside : k ≤ length opening) where
  pub opened_is : (n : ℕ) (cells : List (Cell L O)) (seats : List (Option Hand)) (clock : Clock) → n ≡ k → cells ≡ map (fresh_cell m) (take n opening)
      → seats ≡ replicate 16 None → clock ≡ start → ◌≡◌ {A = State L O} (record { cells = cells; seats = seats; clock = clock; given = n }) (new_state m (take k opening))
  opened_is n cells seats clock is_n is_cells is_seats is_clock = rw (is_cells, is_seats, is_clock, is_n, length-take-le k opening inside)
