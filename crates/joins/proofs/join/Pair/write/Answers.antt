use Rattle.std.proofs.Common.{◌≡◌, ◌++◌, length, ◌∙◌}
use Rattle.records.specs.declared.heads.Head.{Head}
use Rattle.records.specs.Framing.{bytes_of}
use Rattle.records.specs.Heads.{head_record}
use Rattle.records.specs.Numbers.{end_record}
use Rattle.lines.specs.Coding.{Coding}
use Rattle.images.specs.declared.reader.Image.{Image}
use Rattle.images.specs.Images.{Content, head_of, lines_bytes}
use Rattle.joins.specs.Joining.{join}
use Rattle.joins.specs.Merging.{ReadAs, joined_head}
use Rattle.images.proofs.Fronts.{writing-parts}
use Rattle.joins.proofs.Laying.{two_laid, none_laid}
use Rattle.joins.proofs.join.Pair.write.Goals as goal

-- the head of the join, from the heads of two images that were read
head_is : {L : Type 0} (f : Coding L) (x y : Image) (h : Head) (a b : Content L) → h ≡ joined_head x.head y.head → ReadAs f x a → ReadAs f y b → h ≡ head_of f (join a b)
head_is f x y h a b is ra rb = is ∙ rw (ra.head, rb.head)

pub returns-in_err-start : goal.returns-in_err-start
returns-in_err-start g c a b ra rb fit all =
    let f = g.C.Coded.coding in
    let n = c.put.new.out in
    let is = head_is f c.args.self.earlier c.args.self.later c.head.result a b c.head.ensures ra rb in
    rw (writing-parts f (join a b)) (none_laid c.args.out.now 0 (bytes_of head_record (head_of f (join a b))) (lines_bytes f (join a b).lines ++ bytes_of end_record (length (join a b).lines)) n n _ (rw is at c.in_err-start.ensures.put))

pub returns-in_err-at : goal.returns-in_err-at
returns-in_err-at g c a b ra rb fit all =
    let f = g.C.Coded.coding in
    let n = c.put.new.out in
    let o = c.write_lines.new.out in
    let lines = lines_bytes f (join a b).lines in
    let end = bytes_of end_record (length (join a b).lines) in
    let is = head_is f c.args.self.earlier c.args.self.later c.head.result a b c.head.ensures ra rb in
    rw (writing-parts f (join a b)) (two_laid c.args.out.now 0 (bytes_of head_record (head_of f (join a b))) (lines ++ end) n o c.in_ok-start.start _ (rw is at c.in_ok-start.ensures.put) (none_laid n c.in_ok-start.start lines end o o _ (c.in_err-at.ensures.put a b ra rb fit)))

pub returns : goal.returns
returns g c a b ra rb fit all =
    let f = g.C.Coded.coding in
    let n = c.put.new.out in
    let o = c.write_lines.new.out in
    let lines = lines_bytes f (join a b).lines in
    let end = bytes_of end_record (length (join a b).lines) in
    let is = head_is f c.args.self.earlier c.args.self.later c.head.result a b c.head.ensures ra rb in
    rw (writing-parts f (join a b)) (two_laid c.args.out.now 0 (bytes_of head_record (head_of f (join a b))) (lines ++ end) n _ c.in_ok-start.start _ (rw is at c.in_ok-start.ensures.put)
    (two_laid n c.in_ok-start.start lines end o _ c.in_ok-at.at _ (c.in_ok-at.ensures.put a b ra rb fit) (rw all at c.put-2.ensures.put)))
