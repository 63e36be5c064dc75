-- What an entry appended to an entry log needs.
use Rattle.std.proofs.lemmas.Bool.Decides.{nat_tests}
use Rattle.std.proofs.lemmas.Grind.{common_steps}
use Rattle.std.proofs.lemmas.List.{take_more_set}
use Rattle.logs.specs.EntryLogs.{spent_one}

pub ruleset entry_steps = (common_steps, nat_tests, spent_one, take_more_set)
