use Rattle.std.proofs.Common.{◌≡◌, ◌^◌, ◌<◌, drop}
use Rattle.words.specs.Decimal.{behind}
use Rattle.words.proofs.decimal.number.Given as goal

-- what is left of the word, behind the number so far, gives what all of it gives
abbrev pub invariant-loop-c : goal.invariant-loop-c
invariant-loop-c l = (l.n < 2 ^ 64) × (behind l.n (drop l.c-index l.word) ≡ behind 0 l.word)
