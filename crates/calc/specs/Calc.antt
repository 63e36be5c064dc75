-- CALC: the live line, and beside it the point line where a command that comes too late for the point has changed the live one.
--
--   is_done k o     whether the cell is done with the point: its bit is read against the sense, so that turning the sense over makes every cell not done
--   with_live o x   the cell with x as its live line
--   with_done k o   the cell when it is done with the point
--   finishes b      whether the first change of a command that began in b makes the cell done
--   saves b         whether it saves the live line
--   left k b o      whether a command that began in Called leaves a cell that is not done
--   let_go k b o    the cell as that command leaves it, by commit or abandon
--   calc            the rules
--   fits ..         in which stages a cell can be done, have a line saved and have its earlier named bit set
--   Sound           what a cell of CALC is like at any time: it fits, and what a cell has saved that is not done is its before line
use Rattle.std.specs.Prelude.{◌≡◌, Bool, true, false, cond, not, ◌&&◌, ◌||◌, is_some, Some, None, Option}
use Rattle.std.specs.Option.{unwrap_or}
use Rattle.keepers.specs.declared.clocks.Clock.{Clock}
use Rattle.keepers.specs.declared.stages.Stage.{Stage}
use Rattle.keepers.specs.declared.stages.Stage.TheVariants.{Rest, Called, Pointed, Taking, Closing}
use Rattle.keepers.specs.Methods.{Method}
use Rattle.keepers.specs.Pairs.{both, part, with_part}
use Rattle.keepers.specs.Stages.{same}
use Rattle.calc.specs.declared.backed.Backed.{Backed}

abbrev pub differ : Bool → Bool → Bool
differ a b = cond a (not b) b

abbrev pub is_done : {L : Type 0} → Clock → Backed L → Bool
is_done k o = differ o.done k.sense

abbrev pub with_live : {L : Type 0} → Backed L → L → Backed L
with_live o x = record { live = x; saved = o.saved; done = o.done; named = o.named }

abbrev pub with_done : {L : Type 0} → Clock → Backed L → Backed L
with_done k o = record { live = o.live; saved = o.saved; done = not k.sense; named = o.named }

abbrev pub finishes : Stage → Bool
finishes b = same b Pointed || same b Taking

abbrev pub saves : Stage → Bool
saves b = same b Called || finishes b

abbrev pub left : {L : Type 0} → Clock → Stage → Backed L → Bool
left k b o = same b Called && not (is_done k o)

-- a command that began in Called and ends there comes before the point, and nothing stays saved; one that ends in Pointed comes behind it
abbrev pub let_go : {L : Type 0} → Clock → Stage → Backed L → Backed L
let_go k b o = record {
  live = o.live;
  saved = cond (left k b o && same k.stage Called) None o.saved;
  done = cond (left k b o && same k.stage Pointed) (not k.sense) o.done;
  named = o.named;
}

abbrev pub calc : (L : Type 0) → Method L (Backed L)
calc L = record {
  limit = 1024;
  quiet = false;
  sweeps = false;
  fresh = λ x. record { live = x; saved = None; done = false; named = both false };
  -- a cell that is done has its point line safe; another saves it before the live line changes
  first = λ k b o x. record {
    live = x;
    saved = cond (not (is_done k o) && saves b) (Some o.live) o.saved;
    done = cond (not (is_done k o) && finishes b) (not k.sense) o.done;
    named = o.named;
  };
  later = λ k o x. with_live o x;
  commit = λ k b o. record { live = o.live; saved = (let_go k b o).saved; done = (let_go k b o).done; named = with_part o.named k.odd true };
  abandon = λ k b o before. with_live (let_go k b o) before;
  gives = λ k o. record { line = cond (is_done k o) (unwrap_or o.saved o.live) o.live; named = part o.named (not k.odd) };
  given = λ k o. record {
    live = o.live;
    saved = cond (is_done k o) None o.saved;
    done = not k.sense;
    named = with_part o.named (not k.odd) false;
  };
  pointed = λ o. o;
  live = λ o. o.live;
  named = λ k held o. part o.named k.odd;
  due = λ k held before o. record {
    line = cond (is_done k o) (unwrap_or o.saved o.live) (cond held before o.live);
    named = part o.named (not k.odd);
  };
}

abbrev pub began_called : Option Stage → Bool
began_called None = false
began_called (Some b) = same b Called

abbrev pub agree : Bool → Bool → Bool
agree a b = cond a b (not b)

-- in a stage, of a cell that is still due or not, with a holder that began in h, if any; done, something saved, and the earlier named bit
abbrev pub fits : Stage → Bool → Option Stage → Bool → Bool → Bool → Bool
fits Rest due h done saved bit = not due && (not done && (not saved && not bit))
fits Called due h done saved bit = not due && (not done && (agree saved (began_called h) && not bit))
fits Pointed due h done saved bit = due && ((done || agree (is_some h) (began_called h)) && (agree saved (done || is_some h)))
fits Taking due h done saved bit = cond due ((done || not (is_some h)) && agree saved done) (done && (not saved && not bit))
fits Closing due h done saved bit = not due && (done && (not saved && not bit))

abbrev pub Sound : {L : Type 0} → Clock → Bool → Option Stage → L → Backed L → Type 0
Sound k due h before o =
    (fits k.stage due h (is_done k o) (is_some o.saved) (part o.named (not k.odd)) ≡ true)
    × (cond (is_done k o) before (unwrap_or o.saved before) ≡ before)
