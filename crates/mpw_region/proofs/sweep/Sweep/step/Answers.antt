-- Answers to the goals of `Sweep::step` in `src/sweep.rt`.
use Rattle.std.proofs.Common.{◌≤ℤ◌, ◌<ℤ◌, ◌≤◌, List, length, subst, sym, arith, w64}
use Rattle.std.specs.Prelude.{All, AllPairs, take}
use mir.Val.{to_z, of_z}
use Rattle.std.proofs.lemmas.Int.{ints, to_z-of_z}
use Rattle.std.proofs.lemmas.List.Elements.{All-weaker}
use Rattle.mpw_geom.specs.declared.plane.Box2.{Box2}
use Rattle.mpw_region.specs.Internal.Sweep.{HasRow, HoldsJust, BeginsBelow}
use Rattle.mpw_region.proofs.Active.{HoldsJust-drop, HoldsJust-moved}
use Rattle.mpw_region.proofs.sweep.Sweep.step.Goals as goal

pub take_in-requires-clause-active : goal.take_in-requires-clause-active
take_in-requires-clause-active c =
    let row_is = to_z-of_z w64 c.args.row c.ranges.row in
    rw (c.as_slice.ensures.value, c.drop_ended.ensures, row_is)
    (HoldsJust-drop (take c.args.self.now.next c.args.self.now.boxes.items)
    c.args.self.now.active.items c.args.self.now.row c.args.row c.requires.upwards
    c.requires.sweep.active)

pub returns-clause-sweep : goal.returns-clause-sweep
returns-clause-sweep c =
    let seen = c.as_slice.ensures.value in
    let within = subst (λ (bs : List Box2). c.in_ok-next.next ≤ length bs) seen
    c.in_ok-next.ensures.within in
    let begun = subst (λ (bs : List Box2).
    All (λ (b : Box2). b.y0 ≤ℤ to_z w64 (of_z w64 c.args.row)) (take c.in_ok-next.next bs)) seen
    c.in_ok-next.ensures.begun in
    let active = subst (λ (bs : List Box2). HoldsJust (take c.in_ok-next.next bs)
    (λ b. to_z w64 (of_z w64 c.args.row) <ℤ b.y1) c.take_in.new.active.items) seen
    c.in_ok-next.ensures.active in
    record {
      within = within;
      ordered = c.requires.sweep.ordered;
      begun = begun;
      active = HoldsJust-moved (take c.in_ok-next.next c.args.self.now.boxes.items)
          c.take_in.new.active.items c.sort_from_left.new.boxes.items
          (λ b. to_z w64 (of_z w64 c.args.row) <ℤ b.y1) c.in_ok-sort_from_left.ensures.moved active;
    }

pub returns-clause-exact : goal.returns-clause-exact
returns-clause-exact c =
    let row_is = to_z-of_z w64 c.args.row c.ranges.row in
    let seen = c.as_slice.ensures.value in
    let told = rw (seen, row_is) at c.in_ok-next.ensures.exact in
    HoldsJust-moved c.args.self.now.boxes.items c.take_in.new.active.items
    c.sort_from_left.new.boxes.items (λ b. HasRow b c.args.row)
    c.in_ok-sort_from_left.ensures.moved told

pub take_in-requires-clause-within : goal.take_in-requires-clause-within
take_in-requires-clause-within c =
    subst (λ (bs : List Box2). c.args.self.now.next ≤ length bs) (sym c.as_slice.ensures.value)
    c.requires.sweep.within

pub take_in-requires-clause-ordered : goal.take_in-requires-clause-ordered
take_in-requires-clause-ordered c =
    subst (AllPairs BeginsBelow) (sym c.as_slice.ensures.value) c.requires.sweep.ordered

pub take_in-requires-clause-begun : goal.take_in-requires-clause-begun
take_in-requires-clause-begun c =
    rw (c.as_slice.ensures.value, to_z-of_z w64 c.args.row c.ranges.row)
    (All-weaker (λ (b : Box2). b.y0 ≤ℤ c.args.self.now.row) (λ (b : Box2). b.y0 ≤ℤ c.args.row)
    (λ b h. omega (arith, ints, h, c.requires.upwards))
    (take c.args.self.now.next c.args.self.now.boxes.items) c.requires.sweep.begun)

pub returns-clause-ahead : goal.returns-clause-ahead
returns-clause-ahead c =
    rw (c.as_slice.ensures.value, to_z-of_z w64 c.args.row c.ranges.row) at
    c.in_ok-next.ensures.ahead

pub returns-clause-ordered : goal.returns-clause-ordered
returns-clause-ordered c = c.in_ok-sort_from_left.ensures.ordered
