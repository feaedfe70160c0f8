-- Answers to the goals of `listing_in` in `src/first.rt`.
use Rattle.std.proofs.Common.{◌∙◌, ◌*◌, length, List, ap, sym, subst}
use Rattle.std.specs.Prelude.{All}
use Rattle.std.specs.List.{AllZip}
use Rattle.mpw_columns_keys.specs.declared.column.Column.{Column}
use Rattle.mpw_columns_keys.specs.Columns.{seen_box, upright}
use Rattle.mpw_columns_keys.specs.Keys.{IsNear}
use Rattle.mpw_columns.specs.Internal.Firsts.{HasFirsts, IsPlacedAt}
use Rattle.mpw_columns.specs.Internal.Found.{IsUpright}
use Rattle.mpw_columns.specs.Internal.Like.{own_columns}
use Rattle.mpw_columns.proofs.Liked.{own_all}
use Rattle.mpw_columns.proofs.ListingMade.{all_listed, all_near, zip_right}
use Rattle.mpw_columns.proofs.first.listing_in.Goals as goal

pub all_firsts-requires-clause-batches : goal.all_firsts-requires-clause-batches
all_firsts-requires-clause-batches g c κs alive =
    let extent = c.args.layout.now.extent in
    let P : Column → Type 0 = λ column. IsUpright (upright (seen_box column.axis extent) column) in record {
      layout = c.requires.layout;
      upright = subst (All P) (sym (c.as_slice-3.ensures.value ∙ c.in_ok-own.ensures))
          (own_all P c.args.sought.now.columns.now _ c.requires.upright);
      top = c.in_ok-top.ensures;
    }

pub returns : goal.returns
returns g c =
    let l = c.args.layout.now in
    let s = l.snapshot.now in
    let most = c.args.sought.now.most in
    let lists = 2 * length s.deck.rules in
    let columns = c.args.sought.now.columns.now in
    let own = own_columns columns c.as_slice.result.now in
    let P : Column → Type 0 = λ column. IsUpright (upright (seen_box column.axis l.extent) column) in
    let firsts = c.in_ok-firsts.firsts.items in
    let has = subst (λ (cs : List Column). AllZip (HasFirsts s most lists) cs firsts)
    (c.as_slice-3.ensures.value ∙ c.in_ok-own.ensures) c.in_ok-firsts.ensures in
    let placed = subst (λ (cs : List Column). AllZip (IsPlacedAt s cs) columns c.in_ok-placed.placed.items)
    (ap (own_columns columns) (c.as_slice-5.ensures.value ∙ sym c.as_slice.ensures.value)) c.in_ok-placed.ensures in
    let listed = all_listed s most lists own firsts has columns c.in_ok-placed.placed.items placed in record {
      lists = listed.0;
      each = listed.1;
      are = listed.2;
      near = all_near c.test_decides_pair_steps.ensures l c.requires.layout most lists own firsts
          (own_all P columns c.as_slice.result.now c.requires.upright) has;
      by = zip_right (IsPlacedAt s own) (λ p. IsNear p.by) (λ column p h. h.near) columns
          c.in_ok-placed.placed.items placed;
    }
