use Rattle.std.proofs.Common.{sym, refl, arith}
use Rattle.images.proofs.Fronts.{writing-parts}
use Rattle.images.specs.Images.{writing}
use Rattle.images.specs.Reading.{reading}
use Rattle.kinds.specs.Accounts.{account}
use Rattle.lines.specs.Bytes.{le, number}
use Rattle.records.specs.Framing.{framed}
use Rattle.records.specs.Heads.{head_body, head_in}
use Rattle.book_cases.specs.Cases.{empty_book}
use Rattle.book_cases.proofs.book_cases.Goals as goal

pub recorded-requires : goal.recorded-requires
unfolding le framed head_body
recorded-requires c = (omega arith, refl)

pub recorded-requires-2 : goal.recorded-requires-2
unfolding le framed
recorded-requires-2 c = (omega arith, refl)

pub returns : goal.returns
unfolding le number framed head_body head_in reading writing
returns c =
    let head = rw c.head_of_empty.ensures at c.recorded.ensures in
    record {
      run = refl;
      run_history = refl;
      run_image = refl;
      run_no_image = refl;
      image_head = head;
      image_end = c.recorded-2.ensures;
      image = rw (head, c.recorded-2.ensures) (sym (writing-parts account empty_book));
      image_read = rw (head, c.recorded-2.ensures);
    }
