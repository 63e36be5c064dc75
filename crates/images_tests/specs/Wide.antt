-- The widest kind of line: four numbers in 26 bytes.
--
--   ceiling      no number is above it
--   keeps        first ≤ second ≤ third ≤ ceiling, and fourth ≤ 9,999
--   payload      the first three in eight bytes each, then the fourth in two
--   decoded      the line that 26 bytes hold
--   wide         all that such a line is to whoever stores it
use Rattle.std.specs.Prelude.{ℕ, Bool, ◌&&◌, List, ◌++◌, take, drop, nat_le}
use Rattle.images_tests.specs.declared.wide.WideLine.{WideLine}
use Rattle.lines.specs.Bytes.{le, number}
use Rattle.lines.specs.Coding.{Coding, read_by}

abbrev pub ceiling : ℕ
ceiling = 1000000000000000000

abbrev pub keeps : WideLine → Bool
keeps w = nat_le w.first w.second && (nat_le w.second w.third && (nat_le w.third ceiling && nat_le w.fourth 9999))

abbrev pub payload : WideLine → List ℕ
payload w = ((le 8 w.first ++ le 8 w.second) ++ le 8 w.third) ++ le 2 w.fourth

abbrev pub decoded : List ℕ → WideLine
decoded bs = record {
  first = number (take 8 bs);
  second = number (take 8 (drop 8 bs));
  third = number (take 8 (drop 16 bs));
  fourth = number (take 2 (drop 24 bs));
}

abbrev pub wide : Coding WideLine
wide = record {
  code = 26;
  width = 26;
  keeps = keeps;
  payload = payload;
  reading = read_by decoded keeps payload;
}
