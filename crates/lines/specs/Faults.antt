-- What a caller is told of a refusal: its number, the layer that turned the call away, and the place in that layer.
--
--   told n l p        a refusal of that number, layer and place
--   refusal f         what is told of a line's fault; the place is the line's number
--   layer_name l      the layer in a word
--   refusal_text r    the refusal as it is printed: number, layer and place, a space between
use Rattle.std.specs.Prelude.{ℕ, List, ◌++◌, codes}
use Rattle.std.specs.Fmt.{decimal}
use Rattle.lines.specs.declared.faults.Layer.{Layer}
use Rattle.lines.specs.declared.faults.Layer.TheVariants.{Book, Keeper, Line, Image, Log}
use Rattle.lines.specs.declared.faults.LineFault.{LineFault}
use Rattle.lines.specs.declared.faults.LineFault.TheVariants.{NoSuchLine, UnknownChange, AgainstRule}
use Rattle.lines.specs.declared.faults.Refusal.{Refusal}

abbrev pub told : ℕ → Layer → ℕ → Refusal
told number layer place = record { number = number; layer = layer; place = place }

abbrev pub refusal : LineFault → Refusal
refusal (NoSuchLine line) = told 2 Book line
refusal (UnknownChange line) = told 5 Line line
refusal (AgainstRule line) = told 24 Line line

abbrev pub layer_name : Layer → List ℕ
layer_name Book = codes "book"
layer_name Keeper = codes "keeper"
layer_name Line = codes "line"
layer_name Image = codes "image"
layer_name Log = codes "log"

abbrev pub refusal_text : Refusal → List ℕ
refusal_text r = decimal r.number ++ (codes " " ++ (layer_name r.layer ++ (codes " " ++ decimal r.place)))
