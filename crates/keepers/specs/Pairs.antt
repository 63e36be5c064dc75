-- A value for even numbers and one for odd ones. A cell's two named bits are such a pair: bit p mod 2 is for the commits since point p.
--
--   both x            x for both
--   part p o          the value for odd numbers (o), or for even ones
--   with_part p o x   the pair with x in that one's place
use Rattle.std.specs.Prelude.{Bool, cond}
use Rattle.keepers.specs.declared.pairs.Two.{Two}

abbrev pub both : {T : Type 0} → T → Two T
both x = record { even = x; odd = x }

abbrev pub part : {T : Type 0} → Two T → Bool → T
part p o = cond o p.odd p.even

abbrev pub with_part : {T : Type 0} → Two T → Bool → T → Two T
with_part p o x = record { even = cond o p.even x; odd = cond o x p.odd }
