-- Answers to the goals of `placed_columns` in `src/first.rt`.
use Rattle.std.proofs.Common.{ℕ, pos, ◌≡◌, ◌∙◌, ◌+◌, drop, get_or, take, refl, None, List, arith, ap, sym, subst}
use Rattle.std.specs.List.{AllZip}
use Rattle.std.proofs.lemmas.List.{take_all}
use Rattle.mpw_edges.specs.declared.run.Axis.TheVariants.{V}
use Rattle.mpw_columns_keys.specs.declared.column.Column.{Column}
use Rattle.mpw_columns_keys.specs.declared.placed.Placed.{Placed}
use Rattle.mpw_columns.specs.Internal.Firsts.{IsPlacedAt}
use Rattle.mpw_columns.specs.Internal.Like.{own_columns}
use Rattle.mpw_columns.proofs.Liked.{more, of_none, of_some, earlier_list, lists_long}
use Rattle.mpw_columns.proofs.ListingMade.{behind, placed_like, placed_own, spot_of}
use Rattle.mpw_columns.proofs.first.placed_columns.Goals.{in-Some, in-None}
use Rattle.mpw_columns.proofs.first.placed_columns.Goals as goal

no_column : Column
no_column = record { axis = V; from = pos 0; to = pos 0 }

pub loop-place-init : goal.loop-place-init
loop-place-init c = record {
  done = subst (AllZip (IsPlacedAt c.args.layout.now.snapshot.now (own_columns c.args.columns.now c.args.likes.now)) (take 0 c.args.columns.now))
      (sym c.in_ok-placed.ensures.items) tt;
  left = refl;
  few = omega arith;
}

pub index-requires : goal.index-requires
index-requires c =
    let columns = c.args.columns.now in
    let place = c.loop-place.place in
    let test = c.loop-place-test.true in
    let less = c.requires.likes.before place c.in-Some.earlier None test c.in-Some.is in
    let long = lists_long (IsPlacedAt c.args.layout.now.snapshot.now (own_columns columns c.args.likes.now)) columns place
    c.loop-place.placed.items (omega (arith, test)) c.loop-place.invariant.done in
    let ok = c.loop-place.placed.ok in
    omega (arith, less, long, ok)

pub from_earlier-next-requires-clause-placed : goal.from_earlier-next-requires-clause-placed
from_earlier-next-requires-clause-placed c =
    let columns = c.args.columns.now in
    let place = c.loop-place.place in
    let test = c.loop-place-test.true in
    (earlier_list (IsPlacedAt c.args.layout.now.snapshot.now (own_columns columns c.args.likes.now)) columns place
    c.in-Some.earlier no_column c.loop-place.placed.items _ (omega (arith, test))
    (c.requires.likes.before place c.in-Some.earlier None test c.in-Some.is)
    c.loop-place.invariant.done c.index.ensures).near

pub overflow_add-own : goal.overflow_add-own
overflow_add-own c =
    let few = c.loop-place.invariant.few in
    let test = c.loop-place-test.true in
    omega (arith, few, test)

pub loop-place-preserved : goal.loop-place-preserved
unfolding no_column
loop-place-preserved c =
    let l = c.args.layout.now in
    let columns = c.args.columns.now in
    let likes = c.args.likes.now in
    let place = c.loop-place.place in
    let test = c.loop-place-test.true in
    let whole = own_columns columns likes in
    let Is = IsPlacedAt l.snapshot.now whole in
    let rest = own_columns (drop (place + 1) columns) (drop (place + 1) likes) in
    let here = get_or columns place no_column in
    let few = c.loop-place.invariant.few in
    let left = c.loop-place.invariant.left in
    let spot = spot_of l.extent here (c.requires.upright place no_column test) in
    elim c.match-likes-place.branch [
      | in-Some w ↦
          let earlier = earlier_list Is columns place w.in-Some.earlier no_column c.loop-place.placed.items _
          (omega (arith, test)) (c.requires.likes.before place w.in-Some.earlier None test w.in-Some.is)
          c.loop-place.invariant.done w.index.ensures in
          let like = c.requires.likes.alike place w.in-Some.earlier None no_column test w.in-Some.is in
          let is = placed_like c.displaced_columns_have_displaced_lists.ensures l whole
          (get_or columns w.in-Some.earlier no_column) here _ w.from_earlier-next.result c.requires.layout spot
          earlier like w.from_earlier-next.ensures.list w.from_earlier-next.ensures.by in
          let same = w.own-is in record {
            done = more Is columns place no_column c.loop-place.placed.items _ _ test c.loop-place.invariant.done
                c.in_ok-push.ensures.items (subst (Is here) (sym w.next-is) is);
            left = subst (λ (n : ℕ). drop n whole ≡ rest) (sym same)
                (left ∙ of_some columns likes place no_column None test c.requires.likes.long w.in-Some.earlier w.in-Some.is);
            few = omega (arith, same, few);
          }
      | in-None w ↦
          let there = left ∙ of_none columns likes place no_column None test c.requires.likes.long w.in-None.is in
          let same = w.own-is in record {
            done = more Is columns place no_column c.loop-place.placed.items _ _ test c.loop-place.invariant.done
                c.in_ok-push.ensures.items (placed_own whole rest c.loop-place.own here there l.snapshot.now _
                (ap (λ (p : Placed). p.list) w.next-is) (ap (λ (p : Placed). p.by) w.next-is) spot);
            left = subst (λ (n : ℕ). drop n whole ≡ rest) (sym same) (behind whole rest c.loop-place.own here there);
            few = omega (arith, same, few);
          }
    ]

pub returns : goal.returns
returns c =
    let s = c.args.layout.now.snapshot.now in
    let columns = c.args.columns.now in
    subst (λ (cs : List Column). AllZip (IsPlacedAt s (own_columns columns c.args.likes.now)) cs c.loop-place.placed.items)
    (take_all c.loop-place.place columns c.loop-place-test.false) c.loop-place.invariant.done
