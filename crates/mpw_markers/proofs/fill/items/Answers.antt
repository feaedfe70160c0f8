-- Answers to the goals of `items` in `src/fill.rt`.
use Rattle.mpw_markers.proofs.fill.items.Goals as goal
use Rattle.std.proofs.Common.{arith, get_or, refl}
use Rattle.std.proofs.lemmas.List.{get_or_default}
use Rattle.mpw_geom.proofs.Squares.{no_box}
use Rattle.mpw_markers.specs.declared.search.Item.{Item}
use Rattle.mpw_markers.proofs.Filled.{AreItemsBefore-more, AreItemsOf-all}

pub loop-place-preserved : goal.loop-place-preserved
loop-place-preserved c =
    let place = c.loop-place.place in
    let item : Item = record {
      place = c.loop-place.place;
      area = get_or c.args.boxes.now
          c.loop-place.place no_box;
    } in
    rw c.in_ok-push.ensures.items (AreItemsBefore-more c.args.boxes.now place
    c.loop-place.items.items item c.loop-place.invariant refl
    (λ d. get_or_default c.args.boxes.now place d no_box c.loop-place-test.true))

pub returns : goal.returns
returns c = AreItemsOf-all c.args.boxes.now c.loop-place.place c.loop-place.items.items
    (omega arith) c.loop-place.invariant
