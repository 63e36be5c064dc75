-- What a caller is told where a book or a rebuild turns a call away.
--
--   rebuild_refusal f   what is told of the fault f
use Rattle.lines.specs.declared.faults.Layer.TheVariants.{Book, Image}
use Rattle.lines.specs.declared.faults.Refusal.{Refusal}
use Rattle.lines.specs.Faults.{told}
use Rattle.images.specs.Faults.{unlawful_refusal}
use Rattle.book.specs.declared.faults.RebuildFault.{RebuildFault}
use Rattle.book.specs.declared.faults.RebuildFault.TheVariants.{Image as NoImage, Partial, Short, NoMark, Refused}

-- Inside a logged change that is refused stands the line's own fault, with its own refusal.
abbrev pub rebuild_refusal : RebuildFault → Refusal
rebuild_refusal (NoImage u) = unlawful_refusal u
rebuild_refusal (Partial point) = told 7 Image point
rebuild_refusal (Short lines) = told 4 Image lines
rebuild_refusal (NoMark point) = told 7 Image point
rebuild_refusal (Refused entry fault) = told 8 Book entry
