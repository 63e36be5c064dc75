-- A short run on the definition of a book: an account with balance 0 and limit 100, from which 100 are taken, and its first image.
--
--   played g cs b   the answers to the calls cs, one after another, from the book b on
--   counter         the setting: accounts, a keeper that is not quiet, a log in which each entry costs 1
--   asked, answered the calls, and what is answered to each
--   transcript      the calls with their answers, the newest first
use Rattle.std.specs.Prelude.{ℕ, false, List, [], ◌∷◌, pos, negsuc}
use Rattle.lines.specs.declared.changes.Change.{Change}
use Rattle.lines.specs.declared.faults.Layer.TheVariants.{Book as OfBook, Line as OfLine, Image as OfImage}
use Rattle.kinds.specs.declared.accounts.Account.{Account}
use Rattle.kinds.specs.Accounts.{account, account_changed}
use Rattle.records.specs.Commands.{command_of}
use Rattle.logs.specs.declared.entries.Entry.{Entry}
use Rattle.logs.specs.declared.entries.Entry.TheVariants.{Command, Mark}
use Rattle.book.specs.Books.{Setting, Book, Call, Answer, new, step}
use Rattle.book.specs.Books.SeatCall.{begin, change, commit}
use Rattle.book.specs.Books.Call.{seat, look, call, turn, take}
use Rattle.book.specs.Books.Answer.{done, line, bytes, refused}
use Rattle.lines.specs.Faults.{told}
use Rattle.runs.specs.Events.{Event}

abbrev pub played : {L : Type 0} → Setting L → List Call → Book L → List (Answer L)
played g [] b = []
played g (c ∷ cs) b = (step g c b).0 ∷ played g cs (step g c b).1

abbrev pub counter : Setting Account
counter = record { coding = account; changed = account_changed; quiet = false; cost = λ e. 1 }

abbrev pub opening : Book Account
opening = new (record { balance = pos 0; limit = 100 } ∷ []) (record { entries = []; capacity = 8 })

abbrev taking_off : ℕ → Change
taking_off amount = record { line = 0; kind = 2; amount = amount }

abbrev pub asked : List Call
asked =
    seat 0 begin ∷ seat 0 (change (taking_off 101)) ∷ seat 0 (change (taking_off 100)) ∷ look 0 ∷ seat 0 commit ∷ look 0 ∷ call 2 ∷ call 0 ∷ turn ∷ take 32
    ∷ turn ∷ turn ∷ take 31 ∷ take 32 ∷ take 32 ∷ turn ∷ take 32 ∷ take 32 ∷ turn ∷ turn ∷ turn ∷ []

-- 101 are too many; what is not committed is not seen; there is no mode 2; a take comes too early, and one has a byte too few; turns wait for three takes and then for one
abbrev pub answered : List (Answer Account)
answered =
    done ∷ refused (told 24 OfLine 0) ∷ done ∷ line (record { balance = pos 0; limit = 100 }) ∷ done ∷ line (record { balance = negsuc 99; limit = 100 })
    ∷ refused (told 3 OfBook 2) ∷ done ∷ done ∷ refused (told 30 OfBook 2)
    ∷ done ∷ refused (told 28 OfBook 3) ∷ refused (told 4 OfImage 32)
    ∷ bytes (0x10 ∷ 0x00 ∷ 0x01 ∷ 0x00 ∷ 0x01 ∷ 0x00 ∷ 0x01 ∷ 0x00 ∷ 0x00 ∷ 0x00 ∷ 0x00 ∷ 0x00 ∷ 0x01 ∷ 0x00 ∷ 0x00 ∷ 0x00 ∷ [])
    ∷ bytes (0x12 ∷ 0x00 ∷ 0x02 ∷ 0x00 ∷ 0x00 ∷ 0x00 ∷ 0x9c ∷ 0xff ∷ 0xff ∷ 0xff ∷ 0xff ∷ 0xff ∷ 0xff ∷ 0xff ∷ 0x64 ∷ 0x00 ∷ 0x00 ∷ 0x00 ∷ [])
    ∷ refused (told 28 OfBook 1)
    ∷ bytes (0x06 ∷ 0x00 ∷ 0x03 ∷ 0x00 ∷ 0x01 ∷ 0x00 ∷ [])
    ∷ refused (told 30 OfBook 3) ∷ done ∷ done ∷ refused (told 29 OfBook 0) ∷ []

abbrev pub transcribed : {L : Type 0} → List Call → List (Answer L) → List (Event L) → List (Event L)
transcribed [] answers es = es
transcribed (c ∷ cs) [] es = es
transcribed (c ∷ cs) (a ∷ answers) es = transcribed cs answers (record { asked = c; answer = a } ∷ es)

abbrev pub transcript : List (Event Account)
transcript = transcribed asked answered []

abbrev pub logged : List Entry
logged = Command (command_of (taking_off 100 ∷ [])) ∷ Mark 1 ∷ []
