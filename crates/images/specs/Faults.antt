-- What a caller is told where bytes are no lawful image. The place is an offset in them.
use Rattle.lines.specs.declared.faults.Layer.TheVariants.{Image}
use Rattle.lines.specs.declared.faults.Refusal.{Refusal}
use Rattle.lines.specs.Faults.{told}
use Rattle.images.specs.declared.faults.Unlawful.{Unlawful}

abbrev pub unlawful_refusal : Unlawful → Refusal
unlawful_refusal u = told 6 Image u.offset
