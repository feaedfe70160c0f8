-- Answers to the goals of `bands` in `src/cut.rt`.
use Rattle.std.proofs.Common.{◌≡◌, ◌∙◌, sym, ap, map, List}
use Rattle.mpw_geom.specs.declared.plane.Box2.{Box2}
use Rattle.mpw_region.specs.Squares.{covers}
use Rattle.mpw_region.specs.Exchange.{exchanged_box}
use Rattle.mpw_region.proofs.Sweeping.{covers-exchanged}
use Rattle.mpw_region.proofs.cut.bands.Goals as goal

pub of-requires : goal.of-requires
of-requires c = record {
  banded = c.in_ok-rows.ensures.banded;
  columns = record {
    squares = λ i j.
        let is : c.as_slice.result.now ≡ map exchanged_box c.args.boxes.now =
        c.as_slice.ensures.value ∙ c.in_ok-exchanged.ensures in
        c.in_ok-columns.ensures.squares i j ∙ ap (λ (bs : List Box2). covers bs i j) is
        ∙ covers-exchanged c.args.boxes.now i j ∙ sym (c.in_ok-rows.ensures.squares j i);
    banded = c.in_ok-columns.ensures.banded;
  };
}
