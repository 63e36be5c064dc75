use Rattle.std.proofs.Common.{ap, refl, arith}
use Rattle.lines.specs.Bytes.{le}
use Rattle.records.specs.Changes.{change_bytes}
use Rattle.records.specs.Framing.{framed}
use Rattle.cases.specs.Cases.{told}
use Rattle.cases.proofs.worked_cases.Goals as goal

pub recorded-requires : goal.recorded-requires
unfolding le framed change_bytes
recorded-requires c = (omega arith, rw c.command_of_one.ensures)

pub recorded-requires-2 : goal.recorded-requires-2
unfolding le framed
recorded-requires-2 c = (omega arith, refl)

pub returns : goal.returns
unfolding le framed change_bytes
returns c = record {
  debit = ap told c.answer.ensures;
  debit_past = ap told c.answer-2.ensures;
  at_ceiling = ap told c.answer-3.ensures;
  past_ceiling = ap told c.answer-4.ensures;
  reserve = ap told c.answer-5.ensures;
  reserve_past = ap told c.answer-6.ensures;
  ship = ap told c.answer-7.ensures;
  ship_past = ap told c.answer-8.ensures;
  payload = c.payload_of.ensures;
  command = rw c.command_of_one.ensures at c.recorded.ensures;
  mark = c.recorded-2.ensures;
}
