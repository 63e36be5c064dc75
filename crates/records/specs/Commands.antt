-- Commands as lists of changes.
--
--   changes_of c    the changes of a command, in order
--   pushed cs x     the changes cs with x at the end, if there is room for it; else cs
--   command_of cs   the command of at most four changes
--   command_with o  the command of the changes o, if there are any to make it of
--   command_in bs   the command whose body is bs, if there is one
--   command_record  the records of commands
use Rattle.std.specs.Prelude.{ℕ, cond, List, [], ◌∷◌, ◌++◌, length, take, Some, None, Option, nat_lt, refl}
use Rattle.std.proofs.Common.{lit≤}
use Rattle.lines.specs.declared.changes.Change.{Change}
use Rattle.records.specs.declared.commands.Command.{Command}
use Rattle.records.specs.Changes.{no_change, changes_bytes, changes_of_bytes, changes_fit}
use Rattle.records.specs.Framing.{Layout}

abbrev pub changes_of : Command → List Change
changes_of c = take c.len c.changes

abbrev pub pushed : List Change → Change → List Change
pushed cs x = cond (nat_lt (length cs) 4) (cs ++ x ∷ []) cs

-- what is past the fourth is left out
abbrev pub command_of : List Change → Command
command_of [] = record {
  changes = no_change ∷ no_change ∷ no_change ∷ no_change ∷ [];
  len = 0;
  four = refl;
  short = lit≤ tt;
  padded = refl;
}
command_of (x ∷ []) = record {
  changes = x ∷ no_change ∷ no_change ∷ no_change ∷ [];
  len = 1;
  four = refl;
  short = lit≤ tt;
  padded = refl;
}
command_of (x ∷ y ∷ []) = record {
  changes = x ∷ y ∷ no_change ∷ no_change ∷ [];
  len = 2;
  four = refl;
  short = lit≤ tt;
  padded = refl;
}
command_of (x ∷ y ∷ z ∷ []) = record {
  changes = x ∷ y ∷ z ∷ no_change ∷ [];
  len = 3;
  four = refl;
  short = lit≤ tt;
  padded = refl;
}
command_of (x ∷ y ∷ z ∷ w ∷ rest) = record {
  changes = x ∷ y ∷ z ∷ w ∷ [];
  len = 4;
  four = refl;
  short = lit≤ tt;
  padded = refl;
}

abbrev pub command_with : Option (List Change) → Option Command
command_with None = None
command_with (Some cs) = Some (command_of cs)

abbrev pub command_in : List ℕ → Option Command
command_in bs = command_with (changes_of_bytes bs)

abbrev pub command_record : Layout Command
command_record = record {
  kind = 4;
  fits = λ c. changes_fit (changes_of c);
  body = λ c. changes_bytes (changes_of c);
  reading = command_in;
}
