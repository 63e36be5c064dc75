-- Why CALC means what a keeper means: each rule keeps the cell sound, and its line, its name and what is due of it as they should be.
use Rattle.std.specs.Prelude.{refl}
use Rattle.std.proofs.Common.{arith}
use Rattle.std.proofs.lemmas.Bool.Decides.{nat_tests}
use Rattle.keepers.specs.Methods.{Lawful}
use Rattle.calc.specs.Calc.{calc, Sound}

pub calc-lawful : (L : Type 0) → Lawful (calc L) Sound
calc-lawful L = record {
  few = omega arith;
  fresh_is = λ x. record { live_is = refl; named_is = refl; due_is = λ d. refl; sound_is = (refl, refl) };
  first_is = λ k due b before o x a s. grind (arith, nat_tests);
  later_is = λ k due b before o x a s. grind (arith, nat_tests);
  commit_is = λ k due b before o a s. grind (arith, nat_tests);
  abandon_is = λ k due b before o a s. grind (arith, nat_tests);
  gives_is = λ k h before o g s. grind (arith, nat_tests);
  given_is = λ k h before o g s. grind (arith, nat_tests);
  turns_is = λ k due h before o c d b n s. grind (arith, nat_tests);
  points_is = λ k h before o g b n s. grind (arith, nat_tests);
  still = λ e o. refl;
}
