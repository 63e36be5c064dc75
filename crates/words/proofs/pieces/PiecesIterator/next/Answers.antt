use Rattle.std.proofs.Common.{◌<◌, length, rules}
use Rattle.words.specs.Pieces.{pieces}
use Rattle.words.proofs.Cuts.{next_piece, fewer_pieces}
use Rattle.words.proofs.pieces.PiecesIterator.next.Goals as goal

pub returns-clause-steps : goal.returns-clause-steps
returns-clause-steps c =
    let first = next_piece c.args.self.now.mark c.args.self.now.rest.now (search rules) in
    search rules

pub returns-clause-goes : goal.returns-clause-goes
returns-clause-goes c =
    let fewer : length (pieces c.args.self.now.mark c.cut_at.result.1.now) < length (pieces c.args.self.now.mark c.args.self.now.rest.now) =
    rw c.cut_at.ensures.back (fewer_pieces c.args.self.now.mark c.args.self.now.rest.now (search rules))
    in
    search rules
