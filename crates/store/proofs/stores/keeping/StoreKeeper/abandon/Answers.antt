use Rattle.store.specs.States.{state}
use Rattle.store.proofs.Ends.{abandons_shown}
use Rattle.store.proofs.stores.keeping.StoreKeeper.abandon.Goals as goal

pub returns-clause-state : goal.returns-clause-state
returns-clause-state g c = λ v. abandons_shown g.R.Rules.method g.R.Rules.sound g.met.R.Rules.lawful g.R.Line.Line.changed c.args.seat (state c.args.self.now) v _ _ c.end_seat.ensures.state
