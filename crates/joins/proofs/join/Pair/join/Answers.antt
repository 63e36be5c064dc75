use Rattle.std.proofs.Common.{◌≡◌, true, sym, ◌∙◌, arith}
use Rattle.images.specs.Images.{Content}
use Rattle.joins.specs.Joining.{joins}
use Rattle.joins.specs.Merging.{ReadAs}
use Rattle.joins.proofs.Answered.{same_heads, too_short, written, few_joined, joined-size}
use Rattle.joins.proofs.join.Pair.join.Goals as goal

pub returns-then-out-size : goal.returns-then-out-size
returns-then-out-size g c =
    let f = g.C.Coded.coding in
    let x = c.args.self.earlier in
    let y = c.args.self.later in
    let m = c.args.out.now in
    let short = λ (a b : Content g.row.C.Denot) (ra : ReadAs f x a) (rb : ReadAs f y b).
    let fit : joins a b ≡ true = sym (same_heads f a b x y ra rb m) ∙ sym c.if-not-heads_join.ensures in
    let size = joined-size f g.met.C.Coded.lawful a b ra.lawful rb.lawful fit c.count-count.result c.width.result (c.count-count.ensures.lines a b ra rb fit) c.width.ensures in
    too_short f a b x y ra rb m fit _ size c.if-out-size.true in
    record { answer = λ a b ra rb. (short a b ra rb).0; after = λ a b ra rb. (short a b ra rb).1 }

pub overflow_cast-count : goal.overflow_cast-count
overflow_cast-count g c =
    let f = g.C.Coded.coding in
    let s = c.requires in
    let fit : joins s.old s.new ≡ true = sym (same_heads f s.old s.new c.args.self.earlier c.args.self.later s.read_old s.read_new c.args.out.now) ∙ sym c.if-not-heads_join.ensures in
    let all = c.count-count.ensures.lines s.old s.new s.read_old s.read_new fit in
    omega (arith, few_joined f g.met.C.Coded.lawful s.old s.new s.read_old.lawful s.read_new.lawful fit)

pub returns : goal.returns
returns g c =
    let f = g.C.Coded.coding in
    let x = c.args.self.earlier in
    let y = c.args.self.later in
    let m = c.args.out.now in
    let done = λ (a b : Content g.row.C.Denot) (ra : ReadAs f x a) (rb : ReadAs f y b).
    let fit : joins a b ≡ true = sym (same_heads f a b x y ra rb m) ∙ sym c.if-not-heads_join.ensures in
    let all = c.count-count.ensures.lines a b ra rb fit in
    let size = joined-size f g.met.C.Coded.lawful a b ra.lawful rb.lawful fit c.count-count.result c.width.result all c.width.ensures in
    written f a b x y ra rb m fit c.write.new.out c.write.result c.ok_or.result (omega (arith, c.if-out-size.false)) (c.write.ensures a b ra rb fit all) (λ n is. c.ok_or.ensures.value ∙ rw is) in
    record { answer = λ a b ra rb. (done a b ra rb).0; after = λ a b ra rb. (done a b ra rb).1 }
