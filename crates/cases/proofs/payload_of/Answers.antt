use Rattle.std.proofs.Common.{replicate, ◌∙◌, w64, of_z}
use Rattle.kinds.specs.Accounts.{payload}
use Rattle.lines.proofs.Payloads.{put_whole, length_two}
use Rattle.cases.proofs.payload_of.Goals as goal

pub returns : goal.returns
returns c =
    let a = c.args.account in
    c.write_payload.ensures.after ∙ put_whole (payload a) (replicate 12 0) (length_two 8 4 (of_z w64 a.balance) a.limit)
