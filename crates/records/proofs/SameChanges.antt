-- What `==` says of lists of changes: whether they are equal.
use Rattle.std.proofs.Common.{◌≡◌, true, List, Decides, subst, arith}
use Rattle.std.specs.Cmp.Lexicographic.{pointwise, pointwise_decides}
use Rattle.std.proofs.lemmas.Bool.Decides.{nat_tests}
use Rattle.lines.specs.declared.changes.Change.{Change}
use Rattle.records.specs.Changes.{same_change}

-- changes with the same numbers
same_parts : (x y : Change) → x.line ≡ y.line → x.kind ≡ y.kind → x.amount ≡ y.amount → x ≡ y
same_parts x y line kind amount = λ i. record { line = line i; kind = kind i; amount = amount i }

change_decides : (x y : Change) → Decides (same_change x y) (x ≡ y)
change_decides x y = (
  λ t. let parts : (x.line ≡ y.line) × (x.kind ≡ y.kind) × (x.amount ≡ y.amount) = grind (arith, nat_tests) in same_parts x y parts.0 parts.1 parts.2,
  λ e. let own : same_change x x ≡ true = grind (arith, nat_tests) in let P : Change → Type 0 = λ z. same_change x z ≡ true in subst P e own,
)

pub changes_decide : (xs ys : List Change) → Decides (pointwise same_change xs ys) (xs ≡ ys)
changes_decide = pointwise_decides change_decides
