use Rattle.store.specs.States.{state}
use Rattle.store.proofs.Changes.{changes_shown}
use Rattle.store.proofs.stores.keeping.StoreKeeper.change.Goals as goal

pub returns-clause-state : goal.returns-clause-state
returns-clause-state g c = λ v. changes_shown g.R.Rules.method g.R.Rules.sound g.met.R.Rules.lawful g.R.Line.Line.changed c.args.seat c.args.change (state c.args.self.now) v _ _ c.change_line.ensures.state
