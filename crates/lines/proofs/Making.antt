-- What making several changes comes to after the first.
use Rattle.std.proofs.Common.{◌≡◌, ℕ, List, ◌∷◌, Ok, Err, Result, ap}
use Rattle.lines.specs.declared.changes.Change.{Change}
use Rattle.lines.specs.declared.faults.LineFault.{LineFault}
use Rattle.lines.specs.Changing.{Outcome}
use Rattle.lines.specs.Numbered.{make, after}

-- the first of several changes, accepted or refused
pub after_make : {L : Type 0} (f : L → ℕ → ℕ → Outcome L) (ls : List L) (c : Change) (cs : List Change) (r : Result (List L) LineFault) → make f ls c ≡ r
    → after f ls (c ∷ cs) ≡ elim r as (λ _. List L) [ Ok new ↦ after f new cs | Err fault ↦ ls ]
after_make {L} f ls c cs r e = ap (λ (q : Result (List L) LineFault). elim q as (λ _. List L) [ Ok new ↦ after f new cs | Err fault ↦ ls ]) e
