-- Numbers at places in a body, and the records whose body is one number.
--
--   field at k bs        the number that bs holds in k bytes from the offset at
--   one_number kind k    records of that kind with a number of k bytes
--   end_record           the end of an image: the number of its line records
--   mark_record          a mark in a log: its point
use Rattle.std.specs.Prelude.{ℕ, ◌^◌, List, take, drop, nat_lt}
use Rattle.lines.specs.Bytes.{le, number, whole}
use Rattle.records.specs.Framing.{Layout}

abbrev pub field : ℕ → ℕ → List ℕ → ℕ
field at k bs = number (take k (drop at bs))

abbrev pub one_number : ℕ → ℕ → Layout ℕ
one_number kind k = record {
  kind = kind;
  fits = λ n. nat_lt n (256 ^ k);
  body = le k;
  reading = whole k;
}

abbrev pub end_record : Layout ℕ
end_record = one_number 3 2

abbrev pub mark_record : Layout ℕ
mark_record = one_number 5 4
