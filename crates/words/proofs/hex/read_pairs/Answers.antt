use Rattle.std.proofs.Common.{◌/◌, length, vec_items, sym, ◌∙◌, arith, rules}
use Rattle.words.proofs.Pairs.{pairs_start, pairs_odd, pair_some, pair_none, pairs_end}
use Rattle.words.proofs.hex.read_pairs.Goals as goal

pub returns-in_default : goal.returns-in_default
returns-in_default c = sym (pairs_odd (length c.args.word.now / 2) c.args.word.now (omega arith))

pub loop-c-init : goal.loop-c-init
loop-c-init c = rw (c.new-bytes.ensures.items, c.as_chunks.ensures.front) (pairs_start (length c.args.word.now / 2) c.args.word.now (omega arith))

pub returns-in_default-byte : goal.returns-in_default-byte
returns-in_default-byte c = sym (sym c.loop-c.invariant ∙ pair_none c.as_chunks.result.0.now c.loop-c.c-index (vec_items c.loop-c.bytes) c.loop-c-test.true (search rules))

pub loop-c-preserved : goal.loop-c-preserved
loop-c-preserved c =
    let more = pair_some c.as_chunks.result.0.now c.loop-c.c-index (vec_items c.loop-c.bytes) c.loop-c-test.true c.in-Some.b c.in-Some.ensures in
    rw c.in_ok-push.ensures.items (sym more ∙ c.loop-c.invariant)

pub returns : goal.returns
returns c = sym (sym c.loop-c.invariant ∙ pairs_end c.as_chunks.result.0.now c.loop-c.c-index (vec_items c.loop-c.bytes) c.loop-c-test.false)
