-- Answers to the goals of `lists_with` in `src/like.rt`.
use Rattle.std.proofs.Common.{pos, ◌∙◌, ◌+◌, drop, get_or, ◌++◌, None, List, arith, sym, subst, ap}
use Rattle.std.specs.List.{AllZip}
use Rattle.std.specs.Option.{option_to_list}
use Rattle.std.specs.Vec.Iter.{into_iter_items}
use Rattle.mpw_edges.specs.declared.run.Axis.TheVariants.{V}
use Rattle.mpw_columns_keys.specs.declared.column.Column.{Column}
use Rattle.mpw_columns.specs.Internal.Like.{own_columns}
use Rattle.mpw_columns.specs.Lists.{IsColumnList}
use Rattle.mpw_columns.proofs.Liked.{more, next_own, of_none, of_some, earlier_list, lists_long, some_left}
use Rattle.mpw_columns.proofs.like.lists_with.Goals.{in-Some+in_ok-list-in-Some, in-None}
use Rattle.mpw_columns.proofs.like.lists_with.Goals as goal

no_column : Column
no_column = record { axis = V; from = pos 0; to = pos 0 }

pub index-requires : goal.index-requires
index-requires c =
    let columns = c.args.columns.now in
    let place = c.loop-place.place in
    let test = c.loop-place-test.true in
    let less = c.requires.likes.before place c.in-Some.earlier None test c.in-Some.is in
    let long = lists_long (IsColumnList c.args.layout.now.snapshot.now) columns place
    c.loop-place.lists.items (omega (arith, test)) c.loop-place.invariant.done in
    let ok = c.loop-place.lists.ok in
    omega (arith, less, long, ok)

pub list_from-requires-clause-earlier : goal.list_from-requires-clause-earlier
list_from-requires-clause-earlier c =
    let test = c.loop-place-test.true in
    let less = c.requires.likes.before c.loop-place.place c.in-Some.earlier None test c.in-Some.is in
    c.requires.upright c.in-Some.earlier _ (omega (arith, less, test))

pub list_from-requires-clause-displaced : goal.list_from-requires-clause-displaced
list_from-requires-clause-displaced c =
    (c.requires.likes.alike c.loop-place.place c.in-Some.earlier None _ c.loop-place-test.true
    c.in-Some.is).displaced

pub list_from-requires-clause-shown : goal.list_from-requires-clause-shown
list_from-requires-clause-shown c =
    (c.requires.likes.alike c.loop-place.place c.in-Some.earlier None _ c.loop-place-test.true
    c.in-Some.is).shown

pub list_from-requires-clause-list : goal.list_from-requires-clause-list
list_from-requires-clause-list c =
    let place = c.loop-place.place in
    let test = c.loop-place-test.true in
    earlier_list (IsColumnList c.args.layout.now.snapshot.now) c.args.columns.now place
    c.in-Some.earlier _ c.loop-place.lists.items _ (omega (arith, test))
    (c.requires.likes.before place c.in-Some.earlier None test c.in-Some.is)
    c.loop-place.invariant.done c.index.ensures

pub unwrap-list-requires : goal.unwrap-list-requires
unwrap-list-requires c =
    let columns = c.args.columns.now in
    let place = c.loop-place.place in
    let ok = c.loop-place.own.rest.ok.0 in
    let some = some_left (IsColumnList c.args.layout.now.snapshot.now) _ _ _ _
    c.loop-place.invariant.left
    (of_none columns c.args.likes.now place no_column None c.loop-place-test.true
    c.requires.likes.long c.in-None.is) in
    c.next.ensures.variant.1 (omega (arith, ok, some))

pub loop-place-preserved : goal.loop-place-preserved
loop-place-preserved c =
    let columns = c.args.columns.now in
    let likes = c.args.likes.now in
    let place = c.loop-place.place in
    let test = c.loop-place-test.true in
    let Is = IsColumnList c.args.layout.now.snapshot.now in
    let rest = own_columns (drop (place + 1) columns) (drop (place + 1) likes) in
    elim c.match-likes-place.branch [
      | in-Some+in_ok-list-in-Some w ↦ record {
        done = more Is columns place _ c.loop-place.lists.items _ _ test c.loop-place.invariant.done
            c.in_ok-push.ensures.items (subst (Is _) (sym w.list-is) w.in_ok-list-in-Some.ensures);
        left = subst (AllZip Is rest) (sym (ap into_iter_items w.own-is))
            (subst (λ (cs : List Column). AllZip Is cs (into_iter_items c.loop-place.own))
            (of_some columns likes place no_column None test c.requires.likes.long w.in-Some.earlier
            w.in-Some.is) c.loop-place.invariant.left);
      }
      | in-None w ↦
          let next = next_own Is (own_columns (drop place columns) (drop place likes))
          (get_or columns place no_column) rest (into_iter_items c.loop-place.own)
          (into_iter_items w.next.new.self) w.unwrap-list.result c.loop-place.invariant.left
          (of_none columns likes place no_column None test c.requires.likes.long w.in-None.is)
          (w.next.ensures.items
          ∙ ap (λ o. option_to_list o ++ into_iter_items w.next.new.self) w.unwrap-list.ensures) in
          record {
            done = more Is columns place _ c.loop-place.lists.items _ _ test
                c.loop-place.invariant.done c.in_ok-push.ensures.items
                (subst (Is _) (sym w.list-is) next.0);
            left = subst (AllZip Is rest) (sym (ap into_iter_items w.own-is)) next.1;
          }
    ]
