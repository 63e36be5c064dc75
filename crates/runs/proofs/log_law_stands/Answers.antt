use Rattle.runs.proofs.Following.{log_law}
use Rattle.runs.proofs.log_law_stands.Goals as goal

pub returns : goal.returns
returns g c = log_law g.row.L.Denot
