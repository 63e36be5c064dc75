-- How the code goes over the lines of two images side by side.
--
--   weave v behind ws  the lines of ws and before or among them v, where behind puts the lines behind v and lines together
--   overlay vs ws      the lines of vs and of ws in the order of their numbers; of two with the same number that of ws
--   merged_left f m    the lines that are still to come where m lists those of two images
--   heads_join a b     whether images with these heads join
--   joined_head a b    the head of the join
--   ReadAs f image c   the image is one that was read and says c
--   Sides f pair       both images of the pair are
--   WhereRead f pair P    P holds of what the two images say, if both were read
--   WhereJoined f pair P  P holds of the join of what they say, if they join
--   Laid bs m at m' r  if memory m has room for bs from the offset at on, they stand there in m', and r is the offset behind them
use Rattle.std.specs.Prelude.{◌≡◌, ℕ, ◌+◌, ◌≤◌, Bool, true, cond, ◌&&◌, List, [], ◌∷◌, length, Some, Option, ◌==◌, nat_lt}
use Rattle.lines.specs.Bytes.{overwritten}
use Rattle.lines.specs.Coding.{Coding}
use Rattle.records.specs.declared.heads.Head.{Head}
use Rattle.records.specs.declared.image_lines.ImageLine.{ImageLine}
use Rattle.joins.specs.declared.merged.Merged.{Merged}
use Rattle.joins.specs.declared.join.Pair.{Pair}
use Rattle.images.specs.declared.reader.Image.{Image}
use Rattle.images.specs.Images.{Content, LawfulImage, head_of, writing}
use Rattle.joins.specs.Joining.{partial, join, joins}
use Rattle.images.specs.Walks.{lines_left}

abbrev pub weave : {L : Type 0} → ImageLine L → (List (ImageLine L) → List (ImageLine L)) → List (ImageLine L) → List (ImageLine L)
weave v behind [] = v ∷ behind []
weave v behind (w ∷ ws) =
    cond (nat_lt v.number w.number) (v ∷ behind (w ∷ ws)) (cond (v.number == w.number) (w ∷ behind ws) (w ∷ weave v behind ws))

abbrev pub overlay : {L : Type 0} → List (ImageLine L) → List (ImageLine L) → List (ImageLine L)
overlay [] ws = ws
overlay (v ∷ vs) ws = weave v (overlay vs) ws

abbrev pub merged_left : {L : Type 0} → Coding L → Merged L → List (ImageLine L)
merged_left f m = overlay (lines_left f m.earlier) (lines_left f m.later)

abbrev pub heads_join : Head → Head → Bool
heads_join a b = a.n == b.n && (partial b.mode && b.from == a.point)

abbrev pub joined_head : Head → Head → Head
joined_head a b = record { code = a.code; mode = a.mode; n = a.n; from = a.from; point = b.point }

pub record ReadAs {L : Type 0} (f : Coding L) (image : Image) (c : Content L) : Type 0 where
  pub lawful : LawfulImage f c
  pub bytes : image.bytes.now ≡ writing f c
  pub head : image.head ≡ head_of f c
  pub count : image.count ≡ length c.lines

pub record Sides {L : Type 0} (f : Coding L) (pair : Pair) : Type 0 where
  pub old : Content L
  pub new : Content L
  pub read_old : ReadAs f pair.earlier old
  pub read_new : ReadAs f pair.later new

abbrev pub WhereRead : {L : Type 0} → Coding L → Pair → (Content L → Content L → Type 0) → Type 0
WhereRead {L} f pair P = (a b : Content L) → ReadAs f pair.earlier a → ReadAs f pair.later b → P a b

abbrev pub WhereJoined : {L : Type 0} → Coding L → Pair → (Content L → Type 0) → Type 0
WhereJoined f pair P = WhereRead f pair (λ a b. joins a b ≡ true → P (join a b))

abbrev pub Laid : List ℕ → List ℕ → ℕ → List ℕ → Option ℕ → Type 0
Laid bs m at after r = at + length bs ≤ length m → (r ≡ Some (at + length bs)) × (after ≡ overwritten m at bs)
