use Rattle.store.specs.States.{state}
use Rattle.store.proofs.Turns.{calls_shown}
use Rattle.store.proofs.stores.keeping.StoreKeeper.call.Goals as goal

pub returns-clause-state : goal.returns-clause-state
returns-clause-state g c = λ v. calls_shown g.R.Rules.method g.R.Rules.sound g.met.R.Rules.lawful g.R.Line.Line.changed (state c.args.self.now) v _ _ c.call_out.ensures.state
