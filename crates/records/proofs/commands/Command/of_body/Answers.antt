use Rattle.std.proofs.Common.{◌≡◌, ◌/◌, ◌%◌, ◌<◌, eqb, true, false, length, Some, ap, ◌∙◌, inl, inr, arith}
use Rattle.std.proofs.lemmas.Bool.{eqb-true, eq-eqb}
use Rattle.records.specs.Commands.{changes_of, command_with}
use Rattle.records.proofs.ChangeBytes.{command_refused, command-read, command_step}
use Rattle.records.proofs.CommandValues.{command_is}
use Rattle.records.proofs.commands.Command.of_body.Goals as goal
use Rattle.records.proofs.commands.Command.of_body.Goals.{then-bytes-gt-LONGEST-via-then-bytes-gt-LONGEST, then-bytes-gt-LONGEST-via-else-bytes-gt-LONGEST+then-not-is_empty}

pub returns-then-bytes-gt-LONGEST : goal.returns-then-bytes-gt-LONGEST
returns-then-bytes-gt-LONGEST c = elim c.then-bytes-gt-LONGEST.branch [
  | then-bytes-gt-LONGEST-via-then-bytes-gt-LONGEST w ↦ ap command_with (command_refused c.args.bytes.now (inl w.if-bytes-gt-LONGEST.true))
  | then-bytes-gt-LONGEST-via-else-bytes-gt-LONGEST+then-not-is_empty w ↦
      let rest = length c.as_chunks.result.1.now in
      let some : false ≡ eqb rest 0 = w.if-not-is_empty.ensures in
      ap command_with (command_refused c.args.bytes.now (inr (λ e.
      let none : eqb rest 0 ≡ true = eq-eqb rest 0 (c.as_chunks.ensures.back_len ∙ e) in
      absurd (cc))))
]

pub loop-slot-preserved : goal.loop-slot-preserved
loop-slot-preserved c =
    let bs = c.args.bytes.now in
    let n = length bs / 7 in
    let inside : c.loop-slot.slot-index < n = omega (arith, c.loop-slot-test.true, c.as_chunks.ensures.front_len) in
    let few : c.loop-slot.slot-index < 4 = omega (arith, c.if-bytes-gt-LONGEST.false) in
    command_step n bs _ c.loop-slot.slot-index (changes_of c.loop-slot.command) _ inside few c.loop-slot.invariant (rw (c.change_in.ensures, c.as_chunks.ensures.front) at c.push.ensures.after)

pub returns : goal.returns
returns c =
    let bs = c.args.bytes.now in
    let i : c.loop-slot.slot-index ≡ length bs / 7 = omega (arith, c.loop-slot-test.false, c.loop-slot.auto.slot-index-end, c.as_chunks.ensures.front_len) in
    let rest = length c.as_chunks.result.1.now in
    let none : true ≡ eqb rest 0 = c.if-not-is_empty.ensures in
    let even : length bs % 7 ≡ 0 = omega (arith, c.as_chunks.ensures.back_len, eqb-true rest 0 cc) in
    ap Some (command_is c.loop-slot.command _ (rw i at c.loop-slot.invariant)) ∙ ap command_with (command-read bs c.if-bytes-gt-LONGEST.false even)
