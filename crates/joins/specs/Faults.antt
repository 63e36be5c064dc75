-- What a caller is told where two images are not joined. The place is an offset in the image that is unlawful, the point of the later image, or
-- how many bytes the result has. Which of the two is unlawful is told by the fault itself.
use Rattle.lines.specs.declared.faults.Layer.TheVariants.{Image}
use Rattle.lines.specs.declared.faults.Refusal.{Refusal}
use Rattle.lines.specs.Faults.{told}
use Rattle.images.specs.Faults.{unlawful_refusal}
use Rattle.joins.specs.declared.faults.JoinFault.{JoinFault}
use Rattle.joins.specs.declared.faults.JoinFault.TheVariants.{Earlier, Later, Apart, Short}

abbrev pub join_refusal : JoinFault → Refusal
join_refusal (Earlier u) = unlawful_refusal u
join_refusal (Later u) = unlawful_refusal u
join_refusal (Apart point) = told 7 Image point
join_refusal (Short needed) = told 4 Image needed
