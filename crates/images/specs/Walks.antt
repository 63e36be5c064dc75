-- The lines of an image one by one.
--
--   lines_at f bs count m k  the lines from the k-th on, of those that are handed out of the image bs of count lines; at most m of them
--   lines_left f w           those that are still to come where w lists them
use Rattle.std.specs.Prelude.{ℕ, zero, suc, ◌-◌, List, [], ◌∷◌, Some, None, Option}
use Rattle.lines.specs.Coding.{Coding}
use Rattle.records.specs.declared.image_lines.ImageLine.{ImageLine}
use Rattle.images.specs.declared.line_walk.Lines.{Lines}
use Rattle.images.specs.Parts.{part_of, line_in_part}

abbrev pub in_front : {L : Type 0} → Option (ImageLine L) → List (ImageLine L) → List (ImageLine L)
in_front None vs = []
in_front (Some v) vs = v ∷ vs

abbrev pub lines_at : {L : Type 0} → Coding L → List ℕ → ℕ → ℕ → ℕ → List (ImageLine L)
lines_at f bs count zero k = []
lines_at f bs count (suc m) k = in_front (line_in_part f (part_of f bs count k)) (lines_at f bs count m (suc k))

abbrev pub lines_left : {L : Type 0} → Coding L → Lines L → List (ImageLine L)
lines_left f w = lines_at f w.image.bytes.now w.image.count (w.image.count - w.passed) w.passed
