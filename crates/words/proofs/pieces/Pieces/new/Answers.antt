use Rattle.words.proofs.Cuts.{few_pieces}
use Rattle.words.proofs.pieces.Pieces.new.Goals as goal

pub returns-clause-few : goal.returns-clause-few
returns-clause-few c = few_pieces c.args.mark c.args.bytes.now
