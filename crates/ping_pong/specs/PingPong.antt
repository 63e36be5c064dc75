-- Ping-Pong: every change is written twice, to the live line and to a shadow that takes turns with another from point to point.
--
--   shadow o odd   the shadow of that parity
--   put o odd x    the cell with x in live and in that shadow
--   origin k o     what a line was before the changes since the last point, as far as it was given out or is still to be: the shadow of the last point, where its
--                  mark is set; else base
--   ping_pong      the rules
--   Sound          what a cell of Ping-Pong is like at any time: see its parts
use Rattle.std.specs.Prelude.{◌≡◌, Bool, true, false, cond, not, ◌&&◌, ◌||◌, is_some, Option}
use Rattle.keepers.specs.declared.clocks.Clock.{Clock}
use Rattle.keepers.specs.declared.stages.Stage.{Stage}
use Rattle.keepers.specs.Pairs.{both, part, with_part}
use Rattle.keepers.specs.Methods.{Method}
use Rattle.ping_pong.specs.declared.shadowed.Shadowed.{Shadowed}

abbrev pub shadow : {L : Type 0} → Shadowed L → Bool → L
shadow o odd = part o.shadows odd

-- in live and in one shadow, whose mark becomes v; w is kept as the mark that stood before the command
abbrev pub put : {L : Type 0} → Shadowed L → Bool → L → Bool → Bool → Shadowed L
put o odd x v w = record {
  live = x;
  shadows = with_part o.shadows odd x;
  marks = with_part o.marks odd v;
  was = w;
  base = o.base;
}

abbrev pub origin : {L : Type 0} → Clock → Shadowed L → L
origin k o = cond (part o.marks (not k.odd)) (shadow o (not k.odd)) o.base

abbrev pub ping_pong : (L : Type 0) → Method L (Shadowed L)
ping_pong L = record {
  limit = 1024;
  quiet = true;
  sweeps = false;
  fresh = λ x. record { live = x; shadows = both x; marks = both false; was = false; base = x };
  first = λ k b o x. put o k.odd x true (part o.marks k.odd);
  later = λ k o x. put o k.odd x true o.was;
  commit = λ k b o. o;
  abandon = λ k b o before. put o k.odd before o.was o.was;
  gives = λ k o. record { line = origin k o; named = part o.marks (not k.odd) };
  given = λ k o. record { live = o.live; shadows = o.shadows; marks = with_part o.marks (not k.odd) false; was = o.was; base = origin k o };
  pointed = λ o. o;
  live = λ o. o.live;
  named = λ k held o. cond held o.was (part o.marks k.odd);
  due = λ k held before o. record { line = origin k o; named = part o.marks (not k.odd) };
}

abbrev pub Sound : {L : Type 0} → Clock → Bool → Option Stage → L → Shadowed L → Type 0
Sound k due h before o =
    -- once a line was given out, the mark of that point is clear
    (due || not (part o.marks (not k.odd)) ≡ true)
    -- a held cell is marked
    × (cond (is_some h) (part o.marks k.odd) true ≡ true)
    -- where the mark is set, its shadow is the live line; elsewhere that is what it was
    × (cond (part o.marks k.odd) (shadow o k.odd) (origin k o) ≡ o.live)
    -- a held cell that was not marked before had the line that it was
    × (cond (is_some h && not o.was) (origin k o) before ≡ before)
