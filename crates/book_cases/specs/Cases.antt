-- Worked cases of the image and of the book: what a reader can compute by hand, and the calls and the definitions answer.
use Rattle.std.specs.Prelude.{◌≡◌, [], ◌∷◌, ◌++◌, negsuc, Some, None, Ok}
use Rattle.kinds.specs.Accounts.{account as account_coding}
use Rattle.kinds.specs.declared.accounts.Account.{Account}
use Rattle.records.specs.ImageLines.{numbered}
use Rattle.records.specs.declared.heads.Mode.TheVariants.{Full}
use Rattle.images.specs.Images.{Content, writing}
use Rattle.images.specs.Reading.{reading}
use Rattle.runs.specs.Events.{accepted}
use Rattle.runs.specs.Histories.{history, image as image_of}
use Rattle.book_cases.specs.BookCase.{played, counter, opening, asked, answered, transcript, logged}
use Rattle.book_cases.specs.declared.BookCases.{BookCases}

-- what an image says of a book with no lines, at its first point
abbrev pub empty_book : Content Account
empty_book = record { mode = Full; n = 0; from = 0; point = 1; lines = [] }

-- what the image of the run says
abbrev pub overdrawn : Content Account
overdrawn = record { mode = Full; n = 1; from = 0; point = 1; lines = numbered 0 (record { balance = negsuc 99; limit = 100 }) ∷ [] }

pub record Worked (r : BookCases) : Type 0 where
  -- a full image of an account book with no lines, at point 1, is 10000100010000000000000001000000 and then 060003000000
  pub image_head : r.image_head ≡ 0x10 ∷ 0x00 ∷ 0x01 ∷ 0x00 ∷ 0x01 ∷ 0x00 ∷ 0x00 ∷ 0x00 ∷ 0x00 ∷ 0x00 ∷ 0x00 ∷ 0x00 ∷ 0x01 ∷ 0x00 ∷ 0x00 ∷ 0x00 ∷ []
  pub image_end : r.image_end ≡ 0x06 ∷ 0x00 ∷ 0x03 ∷ 0x00 ∷ 0x00 ∷ 0x00 ∷ []
  pub image : r.image_head ++ r.image_end ≡ writing account_coding empty_book
  -- and reads as that
  pub image_read : reading account_coding (r.image_head ++ r.image_end) ≡ Ok empty_book
  -- a run on the definition of a book, call by call; the log that it leads to, and the image of its point, worked out from the transcript alone
  pub run : played counter asked opening ≡ answered
  pub run_history : history (accepted transcript) ≡ logged
  pub run_image : image_of 1 (accepted transcript) ≡ Some (writing account_coding overdrawn)
  pub run_no_image : image_of 2 (accepted transcript) ≡ None
