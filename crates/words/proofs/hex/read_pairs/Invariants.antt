use Rattle.std.proofs.Common.{◌≡◌, drop, vec_items}
use Rattle.words.specs.Hex.{behind_all, pairs}
use Rattle.words.proofs.Pairs.{of_pairs}
use Rattle.words.proofs.hex.read_pairs.Given as goal

-- the pairs that are left, behind the bytes so far, give what all of the word gives
abbrev pub invariant-loop-c : goal.invariant-loop-c
invariant-loop-c l = behind_all (vec_items l.bytes) (of_pairs (drop l.c-index l.pairs)) ≡ pairs l.word
