use Rattle.std.proofs.Common.{sym, ap, ◌∙◌, subst}
use Rattle.store.specs.States.{meaning}
use Rattle.store.specs.Validity.{Valid}
use Rattle.store.proofs.Opens.{valid_new, meaning-new}
use Rattle.store.proofs.stores.keeping.StoreKeeper.open.Goals as goal

pub returns : goal.returns
returns g c =
    let m = g.R.Rules.method in
    record {
      valid = subst (Valid m g.R.Rules.sound g.R.Line.Line.changed) (sym c.open_over.ensures.state) (valid_new m g.R.Rules.sound g.met.R.Rules.lawful g.R.Line.Line.changed _);
      state = ap (meaning m) c.open_over.ensures.state ∙ meaning-new m g.R.Rules.sound g.met.R.Rules.lawful g.R.Line.Line.changed _;
      spare = c.open_over.ensures.spare;
    }
