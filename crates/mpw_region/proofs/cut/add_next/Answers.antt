-- Answers to the goals of `add_next` in `src/cut.rt`.
use Rattle.std.proofs.Common.{◌<ℤ◌, List, get_or, arith, rules, w64}
use mir.Val.{SFits}
use Rattle.std.specs.Prelude.{All}
use Rattle.std.proofs.lemmas.Int.{ints, to_z-of_z}
use Rattle.std.proofs.lemmas.List.Elements.{All-contains, Contains-get_or}
use Rattle.mpw_geom.specs.declared.plane.Box2.{Box2}
use Rattle.mpw_geom.specs.Plane.{HasArea}
use Rattle.mpw_region.specs.Internal.Sweep.{HoldsJust}
use Rattle.mpw_region.proofs.Sweeping.{SweepsUp-more}
use Rattle.mpw_region.proofs.cut.add_next.Goals as goal

-- the boxes of a sweep's list have area
wide : (boxes active : List Box2) (P : Box2 → Type 0) → All HasArea boxes → HoldsJust boxes P active
    → All (λ b. b.x0 <ℤ b.x1) active
wide boxes active P filled just k d l = let a : HasArea (get_or active k d) =
    All-contains HasArea boxes (get_or active k d) filled
    (just.sound (get_or active k d) (Contains-get_or active k d l)).0 in a.width

pub add_band-requires-clause-filled : goal.add_band-requires-clause-filled
add_band-requires-clause-filled c =
    rw c.active.ensures (wide c.args.sweep.now.boxes.items c.args.sweep.now.active.items _
    c.requires.sweeps.filled c.requires.sweeps.exact)

pub returns-clause-sweeps : goal.returns-clause-sweeps
returns-clause-sweeps c =
    let old = c.args.sweep.now in
    let next_is = to_z-of_z w64 c.args.next c.ranges.next in
    let row_fits : SFits w64 c.row.result = search rules in
    let row_is = to_z-of_z w64 c.row.result row_fits in
    let added = rw (next_is, row_is, c.row.ensures, c.active.ensures) at c.in_ok-add_band.ensures in
    SweepsUp-more old c.step.new.self c.args.out.now.items c.add_band.new.out.items c.args.next
    c.requires.sweeps c.requires.up c.requires.between added (record {
      sweep = c.in_ok-step.ensures.sweep;
      row = rw next_is at c.in_ok-step.ensures.row;
      boxes = c.in_ok-step.ensures.boxes;
      ahead = rw next_is at c.in_ok-step.ensures.ahead;
      exact = rw next_is at c.in_ok-step.ensures.exact;
      ordered = c.in_ok-step.ensures.ordered;
    })

pub add_band-requires-clause-rows : goal.add_band-requires-clause-rows
add_band-requires-clause-rows c =
    let row_fits : SFits w64 c.row.result = search rules in
    rw (to_z-of_z w64 c.args.next c.ranges.next, to_z-of_z w64 c.row.result row_fits, c.row.ensures)
    c.requires.up

pub add_band-requires-clause-ordered : goal.add_band-requires-clause-ordered
add_band-requires-clause-ordered c = rw c.active.ensures c.requires.sweeps.ordered

pub add_band-requires-clause-below : goal.add_band-requires-clause-below
add_band-requires-clause-below c =
    let row_fits : SFits w64 c.row.result = search rules in
    rw (to_z-of_z w64 c.row.result row_fits, c.row.ensures) c.requires.sweeps.swept.below

pub step-requires-clause-upwards : goal.step-requires-clause-upwards
step-requires-clause-upwards c =
    rw (to_z-of_z w64 c.args.next c.ranges.next) (omega (arith, ints, c.requires.up))

pub returns-clause-row : goal.returns-clause-row
returns-clause-row c =
    rw (to_z-of_z w64 c.args.next c.ranges.next) at c.in_ok-step.ensures.row
