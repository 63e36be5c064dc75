-- What a caller is told of a log's refusal.
use Rattle.lines.specs.declared.faults.Layer.TheVariants.{Log}
use Rattle.lines.specs.declared.faults.Refusal.{Refusal}
use Rattle.logs.specs.declared.faults.LogFault.{LogFault}
use Rattle.logs.specs.declared.faults.LogFault.TheVariants.{Full, Unlawful}

-- The place is the number of entries of a log that is full, and the offset of what is no record.
abbrev pub refusal : LogFault → Refusal
refusal (Full entries) = record { number = 26; layer = Log; place = entries }
refusal (Unlawful offset) = record { number = 6; layer = Log; place = offset }
