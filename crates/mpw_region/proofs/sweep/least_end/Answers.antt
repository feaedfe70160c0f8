-- Answers to the goals of `least_end` in `src/sweep.rt`.
use Rattle.std.proofs.Common.{get_or, rules, w64}
use mir.Val.{SFits}
use Rattle.std.proofs.lemmas.Int.{to_z-of_z}
use Rattle.std.proofs.lemmas.List.{take_all}
use Rattle.mpw_geom.specs.declared.plane.Box2.{Box2}
use Rattle.mpw_geom.proofs.Squares.{no_box}
use Rattle.mpw_region.proofs.Borders.{IsLeastEnd-none, IsLeastEnd-more}
use Rattle.mpw_region.proofs.sweep.least_end.Goals as goal

pub loop-b-init : goal.loop-b-init
loop-b-init c = IsLeastEnd-none _

pub loop-b-preserved : goal.loop-b-preserved
loop-b-preserved c =
    let i = c.loop-b.b-index in
    let b : Box2 = get_or c.args.boxes.now i no_box in
    let ends_fit : SFits w64 b.y1 = search rules in
    let least_fits : SFits w64 c.min-least.result = search rules in
    rw (to_z-of_z w64 c.min-least.result least_fits)
    (IsLeastEnd-more c.args.boxes.now i no_box _ _ c.min-least.result c.loop-b-test.true
    c.loop-b.invariant
    (rw (to_z-of_z w64 b.y1 ends_fit) at c.min-least.ensures.value))

pub returns : goal.returns
returns c =
    let all = take_all c.loop-b.b-index c.args.boxes.now c.loop-b-test.false in
    let least = rw (to_z-of_z w64 c.args.row c.ranges.row) at c.loop-b.invariant in
    rw all at least
