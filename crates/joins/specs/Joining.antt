-- How an earlier and a later image make one newer image.
--
--   line_of vs i         the line of number i among vs, if there is one
--   newer later earlier  the later line, if there is one; else the earlier
--   listed g i m         the lines that g has for the m numbers from i on, in order
--   joined_lines n e l   every line of e and of l, those of l winning
--   join a b             what the join of the earlier a and the later b says
--   joins a b            whether they join: they are of books of as many lines, the later is partial and goes on from the earlier's point
--   joined f x y         the join of the images x and y as bytes, or why there is none
--   within size r        r where the memory has size bytes
--   lengthed r           the answer to a join: the length of the result, or why there is none
--   laid_in m r          the memory m after a join: with the result at its front and the rest as it was, or as it was
--   Tree                 a way to put images together by joining two at a time
--   leaves t             the images that it puts together, from the earliest on
--   value f t            the image that it gives, if every join is accepted
--   Grouping f           images joined in one order give the same, however they are grouped
--   JoinLaw ..           a join that is accepted is lawful content; what it leaves in memory is the writing of it, and reads as it
use Rattle.std.specs.Prelude.{◌≡◌, ℕ, zero, suc, Bool, true, false, cond, ◌&&◌, List, [], ◌∷◌, ◌++◌, length, take, Some, None, Ok, Err, Option, Result, ◌==◌, nat_le}
use Rattle.std.specs.List.{AllByRecursion}
use Rattle.lines.specs.Bytes.{Bytes, put}
use Rattle.lines.specs.Coding.{Coding}
use Rattle.records.specs.declared.heads.Mode.{Mode}
use Rattle.records.specs.declared.heads.Mode.TheVariants.{Full, Partial}
use Rattle.records.specs.declared.image_lines.ImageLine.{ImageLine}
use Rattle.records.specs.ImageLines.{numbered}
use Rattle.joins.specs.declared.faults.JoinFault.{JoinFault}
use Rattle.joins.specs.declared.faults.JoinFault.TheVariants.{Earlier, Later, Apart, Short}
use Rattle.images.specs.declared.faults.Unlawful.{Unlawful}
use Rattle.images.specs.Images.{Content, LawfulImage, writing}
use Rattle.images.specs.Reading.{reading}

abbrev pub line_of : {L : Type 0} → List (ImageLine L) → ℕ → Option L
line_of [] i = None
line_of (v ∷ vs) i = cond (v.number == i) (Some v.line) (line_of vs i)

abbrev pub newer : {L : Type 0} → Option L → Option L → Option L
newer (Some later) earlier = Some later
newer None earlier = earlier

abbrev pub and_then : {L : Type 0} → ℕ → Option L → List (ImageLine L) → List (ImageLine L)
and_then i None vs = vs
and_then i (Some x) vs = numbered i x ∷ vs

abbrev pub listed : {L : Type 0} → (ℕ → Option L) → ℕ → ℕ → List (ImageLine L)
listed g i zero = []
listed g i (suc m) = and_then i (g i) (listed g (suc i) m)

abbrev pub joined_lines : {L : Type 0} → ℕ → List (ImageLine L) → List (ImageLine L) → List (ImageLine L)
joined_lines n earlier later = listed (λ i. newer (line_of later i) (line_of earlier i)) 0 n

abbrev pub join : {L : Type 0} → Content L → Content L → Content L
join a b = record { mode = a.mode; n = a.n; from = a.from; point = b.point; lines = joined_lines a.n a.lines b.lines }

abbrev pub partial : Mode → Bool
partial Full = false
partial Partial = true

abbrev pub joins : {L : Type 0} → Content L → Content L → Bool
joins a b = a.n == b.n && (partial b.mode && b.from == a.point)

-- the earlier is judged first, then the later, then whether they join
abbrev pub join_read : {L : Type 0} → Coding L → Result (Content L) Unlawful → Result (Content L) Unlawful → Result (List ℕ) JoinFault
join_read f (Err u) later = Err (Earlier u)
join_read f (Ok a) (Err u) = Err (Later u)
join_read f (Ok a) (Ok b) = cond (joins a b) (Ok (writing f (join a b))) (Err (Apart b.point))

abbrev pub joined : {L : Type 0} → Coding L → List ℕ → List ℕ → Result (List ℕ) JoinFault
joined f x y = join_read f (reading f x) (reading f y)

-- at last the memory
abbrev pub within : ℕ → Result (List ℕ) JoinFault → Result (List ℕ) JoinFault
within size (Err fault) = Err fault
within size (Ok bs) = cond (nat_le (length bs) size) (Ok bs) (Err (Short (length bs)))

abbrev pub lengthed : Result (List ℕ) JoinFault → Result ℕ JoinFault
lengthed (Ok bs) = Ok (length bs)
lengthed (Err fault) = Err fault

abbrev pub laid_in : List ℕ → Result (List ℕ) JoinFault → List ℕ
laid_in m (Ok bs) = put bs m
laid_in m (Err fault) = m

pub data Tree : Type 0 where
  image : List ℕ → Tree
  pair : Tree → Tree → Tree

abbrev pub leaves : Tree → List (List ℕ)
leaves (image bs) = bs ∷ []
leaves (pair s t) = leaves s ++ leaves t

abbrev pub accepted : Result (List ℕ) JoinFault → Option (List ℕ)
accepted (Ok bs) = Some bs
accepted (Err fault) = None

abbrev pub join_both : {L : Type 0} → Coding L → Option (List ℕ) → Option (List ℕ) → Option (List ℕ)
join_both f None y = None
join_both f (Some x) None = None
join_both f (Some x) (Some y) = accepted (joined f x y)

abbrev pub value : {L : Type 0} → Coding L → Tree → Option (List ℕ)
value f (image bs) = Some bs
value f (pair s t) = join_both f (value f s) (value f t)

abbrev pub Grouping : {L : Type 0} → Coding L → Type 0
Grouping f = (s t : Tree) → AllByRecursion Bytes (leaves s) → leaves s ≡ leaves t → value f s ≡ value f t

abbrev pub JoinLaw : {L : Type 0} → Coding L → List ℕ → List ℕ → Result ℕ JoinFault → List ℕ → Type 0
JoinLaw {L} f x y r after =
    (a b : Content L) (n : ℕ) → reading f x ≡ Ok a → reading f y ≡ Ok b → r ≡ Ok n
    → LawfulImage f (join a b) × (take n after ≡ writing f (join a b)) × (reading f (take n after) ≡ Ok (join a b))
