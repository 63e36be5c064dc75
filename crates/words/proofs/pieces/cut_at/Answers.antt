use Rattle.std.proofs.Common.{sym}
use Rattle.std.proofs.lemmas.List.{take_rest}
use Rattle.std.proofs.Math.Seq.{take-length, drop-length}
use Rattle.words.proofs.Cuts.{cut_some, cut_none}
use Rattle.words.proofs.pieces.cut_at.Goals as goal

pub returns-in-Some-clause-front : goal.returns-in-Some-clause-front
returns-in-Some-clause-front c = sym (cut_some c.args.mark c.args.bytes.now c.in-Some.i c.in-Some.ensures).0

pub returns-in-Some-clause-back : goal.returns-in-Some-clause-back
returns-in-Some-clause-back c = rw take_rest (sym (cut_some c.args.mark c.args.bytes.now c.in-Some.i c.in-Some.ensures).1)

pub returns-in-None-clause-front : goal.returns-in-None-clause-front
returns-in-None-clause-front c = rw (c.split_at.ensures.front, take-length) (sym (cut_none c.args.mark c.args.bytes.now c.in-None.ensures).0)

pub returns-in-None-clause-back : goal.returns-in-None-clause-back
returns-in-None-clause-back c = rw (c.split_at.ensures.back, drop-length) (sym (cut_none c.args.mark c.args.bytes.now c.in-None.ensures).1)
