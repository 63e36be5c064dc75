-- The numbers of the kinds of record.
use Rattle.std.specs.Prelude.{ℕ}
use Rattle.records.specs.declared.frames.Kind.{Kind}
use Rattle.records.specs.declared.frames.Kind.TheVariants.{Head, Line, End, Command, Mark}

abbrev pub kind_number : Kind → ℕ
kind_number Head = 1
kind_number Line = 2
kind_number End = 3
kind_number Command = 4
kind_number Mark = 5
