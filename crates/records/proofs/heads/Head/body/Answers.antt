use Rattle.std.proofs.Common.{◌<◌, rules}
use Rattle.lines.proofs.LittleEndian.{le_2, le_4}
use Rattle.records.specs.Heads.{head_body, mode_code}
use Rattle.records.proofs.FieldBytes.{le_1}
use Rattle.records.proofs.HeadBytes.{mode_small}
use Rattle.records.proofs.heads.Head.body.Goals as goal

pub returns-clause-bytes : goal.returns-clause-bytes
unfolding head_body
returns-clause-bytes c =
    let h = c.args.self in
    let small : h.code < 256 = search rules in
    let code = le_1 h.code small in
    let mode = le_1 (mode_code h.mode) (mode_small h.mode) in
    rw (c.from.ensures, c.copy_from_slice.ensures.after, c.copy_from_slice-2.ensures.after, c.copy_from_slice-3.ensures.after, c.to_le_bytes.ensures, c.to_le_bytes-2.ensures, c.to_le_bytes-3.ensures, code, mode, le_2 h.n, le_4 h.from, le_4 h.point)
