-- Answers to the goals of `own_columns` in `src/like.rt`.
use Rattle.std.proofs.Common.{◌≡◌, ◌++◌, ◌+◌, List, None, pos, drop, sym, subst, ap}
use Rattle.mpw_edges.specs.declared.run.Axis.TheVariants.{V}
use Rattle.mpw_columns_keys.specs.declared.column.Column.{Column}
use Rattle.mpw_columns.specs.Internal.Like.{own_columns}
use Rattle.mpw_columns.proofs.Liked.{one_more, no_more, none_is, some_is}
use Rattle.mpw_columns.proofs.like.own_columns.Goals.{then-is_none+in_ok-push, else-is_none}
use Rattle.mpw_columns.proofs.like.own_columns.Goals as goal

no_column : Column
no_column = record { axis = V; from = pos 0; to = pos 0 }

pub loop-place-preserved : goal.loop-place-preserved
loop-place-preserved c =
    let columns = c.args.columns.now in
    let likes = c.args.likes.now in
    let place = c.loop-place.place in
    let test = c.loop-place-test.true in
    let whole = own_columns columns likes in
    let rest = own_columns (drop (place + 1) columns) (drop (place + 1) likes) in
    elim c.if-is_none.branch [
      | then-is_none+in_ok-push w ↦ subst (λ (cs : List Column). cs ++ rest ≡ whole)
          (sym (ap (λ v. v.items) w.own-is))
          (one_more columns likes place _ None test c.requires c.loop-place.own.items whole
          c.loop-place.invariant _ (none_is _ _ c.is_none.ensures w.if-is_none.true)
          w.in_ok-push.ensures.items)
      | else-is_none w ↦ subst (λ (cs : List Column). cs ++ rest ≡ whole)
          (sym (ap (λ v. v.items) w.own-is))
          (no_more columns likes place no_column None test c.requires c.loop-place.own.items whole
          c.loop-place.invariant (some_is _ _ c.is_none.ensures w.if-is_none.false))
    ]
