-- What the byte log owes as a log.
use Rattle.std.specs.Prelude.{◌≡◌, ◌≤◌, List, [], ◌∷◌, length, refl}
use Rattle.std.proofs.Common.{sym, ap, ◌∙◌, arith}
use Rattle.std.proofs.lemmas.List.{length-append, length-take-le}
use Rattle.records.proofs.Framed.{length-framed}
use Rattle.records.specs.Commands.{command_record}
use Rattle.records.specs.Numbers.{mark_record}
use Rattle.logs.specs.declared.byte_log.ByteLog.{ByteLog}
use Rattle.logs.specs.declared.entries.Entry.{Entry}
use Rattle.logs.specs.declared.entries.Entry.TheVariants.{Command, Mark}
use Rattle.logs.specs.ByteLogs.{byte_log}
use Rattle.logs.specs.Logs.{Lawful, spent}
use Rattle.logs.specs.RecordRuns.{byte_cost, written}

-- every record has a length and a kind at least
pub cost_least : (e : Entry) → 1 ≤ byte_cost e
cost_least (Command c) = omega (arith, length-framed 4 (command_record.body c))
cost_least (Mark point) = omega (arith, length-framed 5 (mark_record.body point))

-- the records of entries are as long as the entries cost
pub length_written : (es : List Entry) → length (written es) ≡ spent byte_cost es
length_written [] = refl
length_written (e ∷ es) = rw (length-append, length_written es)

-- a log's bytes are just its records
pub used_spent : (l : ByteLog) → spent byte_cost (byte_log l).entries ≡ l.used
used_spent l = sym (length_written (byte_log l).entries) ∙ ap length l.whole ∙ length-take-le l.used l.memory.now l.inside

pub byte_log-lawful : Lawful byte_cost byte_log
byte_log-lawful = record {
  costly = cost_least;
  bounded = λ l. omega arith;
  within = λ l. omega (arith, used_spent l, l.inside, l.few);
}
