use Rattle.store.specs.States.{state}
use Rattle.store.proofs.Begins.{begins_shown}
use Rattle.store.proofs.stores.keeping.StoreKeeper.begin.Goals as goal

pub returns-clause-state : goal.returns-clause-state
returns-clause-state g c = λ v. begins_shown g.R.Rules.method g.R.Rules.sound g.R.Line.Line.changed c.args.seat (state c.args.self.now) v _ _ c.begin_seat.ensures.state
