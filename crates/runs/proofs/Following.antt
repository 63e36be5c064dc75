-- A book goes where its transcript leads, call by call.
use Rattle.std.proofs.Common.{◌≡◌, ℕ, zero, suc, ◌<◌, Bool, true, false, cond, not, eqb, leb, List, [], ◌∷◌, ◌++◌, length, get_or, set, replicate, Some, None, Ok, Err, Option, Result, sym, refl, ap, ◌∙◌, inl, inr, arith}
use Rattle.std.proofs.lemmas.List.{length-set, get_or-set_same, get_or-set_other}
use Rattle.std.proofs.lemmas.Bool.{cases_Bool, eqb-true, eqb-false, leb-false}
use Rattle.std.specs.Option.{option_map}
use Rattle.lines.specs.declared.changes.Change.{Change}
use Rattle.keepers.specs.declared.faults.KeeperFault.{KeeperFault}
use Rattle.keepers.specs.declared.faults.KeeperFault.TheVariants.{NoSuchSeat, NotAtRest}
use Rattle.keepers.specs.declared.given.Given.{Given}
use Rattle.keepers.specs.declared.stages.Stage.{Stage}
use Rattle.keepers.specs.declared.stages.Stage.TheVariants.{Rest, Called, Pointed, Taking, Closing}
use Rattle.keepers.specs.Stages.{same, onward, number}
use Rattle.lines.specs.declared.faults.Layer.TheVariants.{Book as OfBook}
use Rattle.records.specs.declared.heads.Mode.{Mode}
use Rattle.records.specs.Heads.{mode_of}
use Rattle.lines.specs.declared.faults.Refusal.{Refusal}
use Rattle.logs.specs.declared.entries.Entry.TheVariants.{Command, Mark}
use Rattle.logs.specs.Logs.{Log, room, append}
use Rattle.records.specs.Commands.{command_of}
use Rattle.keepers.specs.Faults.{refusal as keeper_refusal}
use Rattle.keepers.specs.Calls.{first, begin_refusals, end_refusals, added, looks, gave, turned, judged as keeper_judged}
use Rattle.keepers.specs.Meanings.{Hand, Meaning, at_seat, changes_of_hand}
use Rattle.book.specs.Books.{SeatCall, Setting, Book, Call, Answer, new, step, judged, or_else, hand_over, with_keeper, no_room, command_in, looked, Progress, taken, line_taken, called, in_mode, waits, at_point}
use Rattle.book.specs.Books.Progress.{nothing, lines_out, all_out}
use Rattle.lines.specs.Faults.{told}
use Rattle.book.specs.Books.SeatCall.{begin, change, commit, abandon}
use Rattle.book.specs.Books.Call.{seat, look, call, turn, take}
use Rattle.book.specs.Books.Answer.{done, bytes}
use Rattle.runs.specs.Events.{Event, accepted, hand, in_hand, at_point as transcript_at_point}
use Rattle.runs.specs.Histories.{history, or_none, with_command}
use Rattle.runs.specs.Laws.{Follows, Run, LogLaw}
use Rattle.runs.specs.Laws.Run.{start, then}

-- the seats with one of them altered, seen seat by seat
seat-set : (hs : List (Option Hand)) (s r : ℕ) (h : Option Hand) → s < length hs → get_or (set hs s h) r None ≡ cond (eqb s r) h (get_or hs r None)
seat-set hs s r h within = elim (cases_Bool (eqb s r)) [
  | inl same ↦ let e : s ≡ r = eqb-true s r same in rw (same, ← e) (get_or-set_same hs s h None within)
  | inr other ↦ let ne = eqb-false s r other in rw other (get_or-set_other hs s r h None (λ e. ne (sym e)))
]

-- from Rest a turn leads to Called
called_from : (g : Stage) → same g Rest ≡ true → onward g ≡ Called
called_from Rest e = refl
called_from Called e = absurd (cc)
called_from Pointed e = absurd (cc)
called_from Taking e = absurd (cc)
called_from Closing e = absurd (cc)

-- sixteen seats, and a transcript that leads to the book
record Led {L : Type 0} (es : List (Event L)) (b : Book L) : Type 0 where
  pub follows : Follows (accepted es) b
  pub sixteen : length b.keeper.seats ≡ 16

-- a call of a seat that is not refused is of one that is there
seat_there : (s : ℕ) (rest : Option KeeperFault) → cond (leb 16 s) (Some (NoSuchSeat s)) rest ≡ None → leb 16 s ≡ false
seat_there s rest e = elim (cases_Bool (leb 16 s)) [
  | inl past ↦ let some : Some (NoSuchSeat s) ≡ None = rw past at e in absurd (cc)
  | inr here ↦ here
]

-- a change added to a seat's command
hand-added : (c : Change) (o : Option Hand) → option_map (λ cs. cs ++ c ∷ []) (option_map (λ h. h.changes) o) ≡ option_map (λ h. h.changes) (added c o)
hand-added c None = refl
hand-added c (Some h) = refl

mapped_none : (f : KeeperFault → Refusal) (o : Option KeeperFault) → option_map f o ≡ None → o ≡ None
mapped_none f None e = refl
mapped_none f (Some x) e = absurd (cc)

has_room : (fits : Bool) (r : Refusal) → cond fits None (Some r) ≡ None → fits ≡ true
has_room true r e = refl
has_room false r e = absurd (cc)

hand-changes : (o : Option Hand) → or_none (option_map (λ h. h.changes) o) ≡ changes_of_hand o
hand-changes None = refl
hand-changes (Some h) = refl

refused_none : (a b : Option Refusal) → or_else a b ≡ None → (a ≡ None) × (b ≡ None)
refused_none None b e = (refl, e)
refused_none (Some r) b e = absurd (cc)

module _ {L : Type 0} (g : Setting L) (es : List (Event L)) (b : Book L) (led : Led es b) where
  abbrev after : Call → Answer L × Book L → Type 0
  after c r = Led (record { asked = c; answer = r.0 } ∷ es) r.1

  -- a call that is refused leads nowhere
  judged-by : (c : Call) (o : Option Refusal) (next : Answer L × Book L) → (o ≡ None → after c next) → after c (judged o next b)
  judged-by c None next f = f refl
  judged-by c (Some r) next f = record { follows = led.follows; sixteen = led.sixteen }

  handed_over : (c : Call) (o : Option KeeperFault) (next : Meaning L) → (o ≡ None → after c (done, with_keeper next b)) → after c (hand_over (keeper_judged o tt next b.keeper) b)
  handed_over c None next f = f refl
  handed_over c (Some fault) next f = record { follows = led.follows; sixteen = led.sixteen }

  -- a call that alters one seat, and the log if it commits
  reseated : (s : ℕ) (sc : SeatCall) (h : Option Hand) (m : Meaning L) (log : Log) → leb 16 s ≡ false → m.stage ≡ b.keeper.stage → m.seats ≡ set b.keeper.seats s h
      → in_hand sc (hand s (accepted es)) ≡ option_map (λ x. x.changes) h → with_command sc (or_none (hand s (accepted es))) (history (accepted es)) ≡ log.entries
      → after (seat s sc) (done, record { keeper = m; log = log; points = b.points; mode = b.mode; progress = b.progress })
  reseated s sc h m log small same_stage seats mine logged =
      let within : s < length b.keeper.seats = omega (arith, leb-false 16 s small, led.sixteen) in
      record {
        follows = record {
          log = logged;
          stage_is = led.follows.stage_is ∙ sym same_stage;
          points_are = led.follows.points_are;
          hands = λ r. rw (seats, seat-set b.keeper.seats s r h within) (elim (cases_Bool (eqb s r)) [
            | inl this ↦ let e : s ≡ r = eqb-true s r this in rw this (rw e at mine)
            | inr other ↦ rw other (led.follows.hands r)
          ]);
        };
        sixteen = rw (seats, length-set) led.sixteen;
      }

  begun : (s : ℕ) → after (seat s begin) (step g (seat s begin) b)
  begun s = handed_over (seat s begin) (first (begin_refusals g.quiet s b.keeper) None) _
      (λ none. reseated s begin _ _ b.log (seat_there s _ none) refl refl refl led.follows.log)

  changed : (s : ℕ) (c : Change) → after (seat s (change c)) (step g (seat s (change c)) b)
  changed s c = handed_over (seat s (change c)) _ _
      (λ none. reseated s (change c) (added c (at_seat b.keeper s)) _ b.log (seat_there s _ none) refl refl
      (ap (option_map (λ cs. cs ++ c ∷ [])) (led.follows.hands s) ∙ hand-added c (at_seat b.keeper s)) led.follows.log)

  abandoned : (s : ℕ) → after (seat s abandon) (step g (seat s abandon) b)
  abandoned s = handed_over (seat s abandon) (first (end_refusals s b.keeper) None) _
      (λ none. reseated s abandon None _ b.log (seat_there s _ none) refl refl refl led.follows.log)

  -- a commit appends the command in hand, which the log has room for
  committed : (s : ℕ) → after (seat s commit) (step g (seat s commit) b)
  committed s = judged-by (seat s commit) _ _ (λ none.
      let both = refused_none (option_map keeper_refusal (first (end_refusals s b.keeper) None)) (no_room g (command_in s b) b) none in
      let may = mapped_none keeper_refusal (first (end_refusals s b.keeper) None) both.0 in
      let room_is = has_room (room g.cost b.log (command_in s b)) _ both.1 in
      reseated s commit None _ _ (seat_there s _ may) refl refl refl
      (rw (room_is, led.follows.log, led.follows.hands s) (ap (λ cs. b.log.entries ++ Command (command_of cs) ∷ []) (hand-changes (at_seat b.keeper s)))))

  looked_at : (i : ℕ) → after (look i) (step g (look i) b)
  looked_at i = at_line (looks i b.keeper)
    where
      at_line : (r : Result L KeeperFault) → after (look i) (looked r, b)
      at_line (Ok x) = record { follows = record { log = led.follows.log; stage_is = led.follows.stage_is; points_are = led.follows.points_are; hands = led.follows.hands }; sixteen = led.sixteen }
      at_line (Err fault) = record { follows = led.follows; sixteen = led.sixteen }

  -- a take alters neither seats nor stage nor log
  drawn : (size : ℕ) (bs : List ℕ) (next : Book L) → next.log ≡ b.log → next.keeper.stage ≡ b.keeper.stage → next.points ≡ b.points → next.keeper.seats ≡ b.keeper.seats → after (take size) (bytes bs, next)
  drawn size bs next log_same stage_same points_same seats_same = record {
    follows = record {
      log = led.follows.log ∙ ap (λ l. l.entries) (sym log_same);
      stage_is = led.follows.stage_is ∙ sym stage_same;
      points_are = led.follows.points_are ∙ sym points_same;
      hands = λ s. led.follows.hands s ∙ ap (λ hs. option_map (λ h. h.changes) (get_or hs s None)) (sym seats_same);
    };
    sixteen = ap length seats_same ∙ led.sixteen;
  }

  drawn_by : (size : ℕ) (w : Progress) → after (take size) (taken g w b)
  drawn_by size nothing = drawn size _ _ refl refl refl refl
  drawn_by size all_out = drawn size _ _ refl refl refl refl
  drawn_by size (lines_out w) = next_line (cond (same b.keeper.stage Taking) b.keeper.due [])
    where
      next_line : (ds : List (Given L)) → after (take size) (line_taken g w (gave ds b.keeper) b)
      next_line [] = drawn size _ _ refl refl refl refl
      next_line (d ∷ ds) = drawn size _ _ refl refl refl refl

  took : (size : ℕ) → after (take size) (step g (take size) b)
  took size = judged-by (take size) _ (taken g b.progress b) (λ none. drawn_by size b.progress)

  -- a call leads from Rest to Called
  called_in : (code : ℕ) (o : Option Mode) → after (call code) (called code o b)
  called_in code None = record { follows = led.follows; sixteen = led.sixteen }
  called_in code (Some m) = by_rest (same b.keeper.stage Rest) refl
    where
      by_rest : (x : Bool) → same b.keeper.stage Rest ≡ x
          → after (call code) (judged (cond x None (Some (told 27 OfBook (number b.keeper.stage)))) (in_mode m (hand_over (keeper_judged (first ((not x, NotAtRest b.keeper.stage) ∷ []) None) tt (turned b.keeper) b.keeper) b)) b)
      by_rest true e = record {
        follows = record { log = led.follows.log; stage_is = sym (called_from b.keeper.stage e); points_are = led.follows.points_are; hands = led.follows.hands };
        sixteen = led.sixteen;
      }
      by_rest false e = record { follows = led.follows; sixteen = led.sixteen }

  -- a turn leads one stage on, and from Called passes a point and appends its mark
  moved : after turn (step g turn b)
  moved = judged-by turn _ _ (λ none.
      let p = suc b.points in
      let first_two = refused_none (cond (same b.keeper.stage Rest) (Some (told 29 OfBook 0)) None) (or_else (waits b) (cond (at_point b) (no_room g (Mark p) b) None)) none in
      let room_is = (refused_none (waits b) (cond (at_point b) (no_room g (Mark p) b) None) first_two.1).1 in
      let here : transcript_at_point (accepted es) ≡ at_point b = ap (λ x. same x Called) led.follows.stage_is in
      record {
        follows = record {
          log = rw (here, led.follows.points_are, led.follows.log) (marked (at_point b) room_is);
          stage_is = ap onward led.follows.stage_is;
          points_are = rw (here, led.follows.points_are);
          hands = led.follows.hands;
        };
        sixteen = led.sixteen;
      })
    where
      marked : (x : Bool) → cond x (no_room g (Mark (suc b.points)) b) None ≡ None
          → cond x (b.log.entries ++ Mark (suc b.points) ∷ []) b.log.entries ≡ (cond x (append g.cost b.log (Mark (suc b.points))) b.log).entries
      marked true e = rw (has_room (room g.cost b.log (Mark (suc b.points))) _ e)
      marked false e = refl

  followed : (c : Call) → after c (step g c b)
  followed (seat s begin) = begun s
  followed (seat s (change c)) = changed s c
  followed (seat s commit) = committed s
  followed (seat s abandon) = abandoned s
  followed (look i) = looked_at i
  followed (call code) = called_in code (mode_of code)
  followed turn = moved
  followed (take size) = took size

none_open : (n s : ℕ) → ◌≡◌ {A = Option Hand} (get_or (replicate n None) s None) None
none_open zero s = refl
none_open (suc n) zero = refl
none_open (suc n) (suc s) = none_open n s

-- a new book has passed no point, holds no entry, and has no command in hand
new_led : {L : Type 0} (ls : List L) (log : Log) → Led [] (new ls log)
new_led ls log = record {
  follows = record { log = refl; stage_is = refl; points_are = refl; hands = λ s. sym (ap (option_map (λ h. h.changes)) (none_open 16 s)) };
  sixteen = refl;
}

all_led : {L : Type 0} (g : Setting L) (ls : List L) (log : Log) (es : List (Event L)) (b : Book L) → Run g (new ls log) es b → Led es b
all_led g ls log es b start = new_led ls log
all_led g ls log es b (then run c) = followed g _ _ (all_led g ls log _ _ run) c

pub log_law : (L : Type 0) → LogLaw L
log_law L g ls log es b run = (all_led g ls log es b run).follows
