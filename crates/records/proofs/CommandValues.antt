-- Commands with the same changes are equal values, and a command has one reading.
use Rattle.std.proofs.Common.{◌≡◌, ℕ, ◌-◌, ◌≤◌, true, List, [], ◌∷◌, ◌++◌, length, drop, replicate, Some, None, Option, sym, refl, ap, ◌∙◌, arith}
use mathlib.Core.HLevel.{is_prop→PathP}
use mathlib.Core.List.{is_set}
use native.Mathlib.Bridge.{le_prop}
use native.Mathlib.Nat.{ℕ_set}
use base.Stored.{Coded-set}
use Rattle.std.proofs.lemmas.List.{length-take, take-append-drop}
use Rattle.lines.specs.Bytes.{Bytes}
use Rattle.lines.specs.declared.changes.Change.{Change}
use Rattle.lines.specs.contracts.changes.Change.{the_row}
use Rattle.records.specs.declared.commands.Command.{Command}
use Rattle.records.specs.Changes.{no_change, changes_bytes, changes_of_bytes, changes_fit}
use Rattle.records.specs.Commands.{changes_of, command_of, command_with, command_in, command_record}
use Rattle.records.specs.Framing.{LawfulLayout}
use Rattle.records.proofs.ChangeBytes.{read-changes, read_changes_only, length-changes_bytes, bytes-changes}

pub length-changes : (c : Command) → length (changes_of c) ≡ c.len
length-changes c = simp length-take (omega (arith, c.four, c.short))

-- a command's slots are its changes and then none
slots : (c : Command) → changes_of c ++ replicate (4 - c.len) no_change ≡ c.changes
slots c = rw (← c.padded) (take-append-drop c.len c.changes)

pub same_slots : (c d : Command) → c.changes ≡ d.changes → c.len ≡ d.len → c ≡ d
same_slots c d changes len = λ i. record {
  changes = changes i;
  len = len i;
  four = is_prop→PathP (λ j. length (changes j) ≡ 4) (λ j. ℕ_set (length (changes j)) 4) c.four d.four i;
  short = is_prop→PathP (λ j. len j ≤ 4) (λ j. le_prop) c.short d.short i;
  padded = is_prop→PathP (λ j. drop (len j) (changes j) ≡ replicate (4 - len j) no_change) (λ j. is_set (Coded-set the_row.coded) (drop (len j) (changes j)) (replicate (4 - len j) no_change)) c.padded d.padded i;
}

pub same-command : (c d : Command) → changes_of c ≡ changes_of d → c ≡ d
same-command c d e =
    let len : c.len ≡ d.len = sym (length-changes c) ∙ ap length e ∙ length-changes d in
    same_slots c d (sym (slots c) ∙ rw (e, len) (slots d)) len

-- the command of a command's changes is that command, and no other
changes_of-command : (cs : List Change) → length cs ≤ 4 → changes_of (command_of cs) ≡ cs
changes_of-command [] few = refl
changes_of-command (x ∷ []) few = refl
changes_of-command (x ∷ y ∷ []) few = refl
changes_of-command (x ∷ y ∷ z ∷ []) few = refl
changes_of-command (x ∷ y ∷ z ∷ w ∷ []) few = refl
changes_of-command (x ∷ y ∷ z ∷ w ∷ v ∷ rest) few = absurd (omega arith)

few_changes : (c : Command) → length (changes_of c) ≤ 4
few_changes c = omega (arith, length-changes c, c.short)

pub command_is : (c : Command) (cs : List Change) → changes_of c ≡ cs → c ≡ command_of cs
command_is c cs e = same-command c (command_of cs) (e ∙ sym (changes_of-command cs (rw e at (few_changes c))))

command_with_some : (o : Option (List Change)) (c : Command) → command_with o ≡ Some c → (cs : List Change) × (o ≡ Some cs) × (command_of cs ≡ c)
command_with_some None c h = absurd (cc)
command_with_some (Some cs) c h = (cs, refl, cc)

command_back : (c : Command) → changes_fit (changes_of c) ≡ true → command_in (changes_bytes (changes_of c)) ≡ Some c
command_back c fits = rw (read-changes (changes_of c) (few_changes c) fits) (ap Some (sym (command_is c (changes_of c) refl)))

command_only : (bs : List ℕ) (c : Command) → Bytes bs → command_in bs ≡ Some c → (changes_fit (changes_of c) ≡ true) × (changes_bytes (changes_of c) ≡ bs)
command_only bs c typed h =
    let found = command_with_some (changes_of_bytes bs) c h in
    let only = read_changes_only bs found.0 typed found.1 in
    let same : changes_of c ≡ found.0 = ap changes_of (sym found.2) ∙ changes_of-command found.0 only.0 in
    (rw same only.1, rw same only.2)

pub command-lawful : LawfulLayout command_record
command-lawful = record {
  kind_small = omega arith;
  short = λ c _. omega (arith, few_changes c, length-changes_bytes (changes_of c));
  bytes = λ c. bytes-changes (changes_of c);
  reads_back = command_back;
  reads_only = command_only;
}
