use Rattle.std.proofs.Common.{◌≡◌, ◌≤◌, map, length, take, drop, sym, ap, ◌∙◌, arith}
use Rattle.std.proofs.lemmas.List.{drop_at}
use Rattle.keepers.specs.Meanings.{size}
use Rattle.store.specs.CellRules.{fresh_cell}
use Rattle.store.proofs.OpenWays.{front_within, opened_is}
use Rattle.store.proofs.stores.Store.open_over.Goals as goal

pub fill-requires : goal.fill-requires
fill-requires g c =
    let front = front_within g.R.Line.Coded.coding.keeps c.args.opening.now in
    let n = c.min-n.ensures in
    let f = c.lawful_front.ensures in
    omega (arith, front, n, f, c.split_at_mut-cells.ensures.front_len)

pub returns : goal.returns
returns g c =
    let opening = c.args.opening.now in
    let memory = c.args.memory.now in
    let k = size g.R.Line.Coded.coding.keeps opening (length memory) g.R.Rules.method.limit in
    let front = front_within g.R.Line.Coded.coding.keeps opening in
    let n : c.min-n.result ≡ k = c.min-n.ensures ∙ cc (c.lawful_front.ensures, c.min.ensures, c.limit.ensures) in
    let inside : k ≤ length opening = omega (arith, front) in
    let cells = c.fill.ensures ∙ ap (λ i. map (fresh_cell g.R.Rules.method) (take i opening)) c.split_at_mut-cells.ensures.front_len in
    record {
      state = opened_is g.R.Rules.method opening k inside _ _ _ _ n cells c.default.ensures c.default-2.ensures;
      spare = sym (ap (drop k) c.split_at_mut-cells.ensures.value ∙ drop_at c.split_at_mut-cells.result.0.now c.split_at_mut-cells.result.1.now k (c.split_at_mut-cells.ensures.front_len ∙ n));
    }
