-- Answers to the goals of `take_in` in `src/sweep.rt`.
use Rattle.std.proofs.Common.{◌≡◌, ℕ, ◌≤ℤ◌, ◌<ℤ◌, length, get_or, subst, arith, rules, w64}
use mir.Val.{SFits}
use Rattle.std.specs.Prelude.{All, take}
use Rattle.std.proofs.lemmas.Int.{ints, to_z-of_z}
use Rattle.std.proofs.lemmas.List.{length-drop}
use Rattle.std.proofs.lemmas.List.Elements.{All-more}
use Rattle.mpw_geom.specs.declared.plane.Box2.{Box2}
use Rattle.mpw_geom.proofs.Tests.{lt_from_test}
use Rattle.mpw_geom.proofs.Squares.{no_box}
use Rattle.mpw_region.specs.Internal.Sweep.{HoldsJust}
use Rattle.mpw_region.proofs.Active.{HoldsJust-push, HoldsJust-skip, HoldsJust-row, ahead, le_from_not_lt}
use Rattle.mpw_region.proofs.Borders.{all_ahead}
use Rattle.mpw_region.proofs.sweep.take_in.Goals as goal
use Rattle.mpw_region.proofs.sweep.take_in.Goals.{then-row-b-2+in_ok-push, else-row-b-2}

pub returns-then-row-b-clause-exact : goal.returns-then-row-b-clause-exact
returns-then-row-b-clause-exact c =
    let b : Box2 = get_or c.args.boxes.now c.loop-n.n no_box in
    let fits : SFits w64 b.y0 = search rules in
    let above = lt_from_test c.args.row b.y0
    (rw (to_z-of_z w64 c.args.row c.ranges.row, to_z-of_z w64 b.y0 fits) at c.if-row-b.true) in
    let row_is = to_z-of_z w64 c.args.row c.ranges.row in
    let active = rw row_is at c.loop-n.invariant.active in
    let begun = rw row_is at c.loop-n.invariant.begun in
    HoldsJust-row c.args.boxes.now c.loop-n.active.items c.args.row c.loop-n.n active begun
    (λ k d l g. ahead c.args.boxes.now c.args.row c.loop-n.n k d c.requires.ordered l g above)

pub returns-then-row-b-clause-ahead : goal.returns-then-row-b-clause-ahead
returns-then-row-b-clause-ahead c =
    let b : Box2 = get_or c.args.boxes.now c.loop-n.n no_box in
    let fits : SFits w64 b.y0 = search rules in
    all_ahead c.args.boxes.now c.args.row c.loop-n.n c.requires.ordered c.loop-n-test.true
    (lt_from_test c.args.row b.y0
    (rw (to_z-of_z w64 c.args.row c.ranges.row, to_z-of_z w64 b.y0 fits) at c.if-row-b.true))

pub loop-n-preserved : goal.loop-n-preserved
loop-n-preserved c =
    let n = c.loop-n.n in
    let b : Box2 = get_or c.args.boxes.now n no_box in
    let fits : SFits w64 b.y0 = search rules in
    let ends_fit : SFits w64 b.y1 = search rules in
    let row_is = to_z-of_z w64 c.args.row c.ranges.row in
    let begun =
    le_from_not_lt c.args.row b.y0 (rw (row_is, to_z-of_z w64 b.y0 fits) at c.if-row-b.false) in
    let old_active = rw row_is at c.loop-n.invariant.active in
    let old_begun = rw row_is at c.loop-n.invariant.begun in
    let more = All-more (λ (x : Box2). x.y0 ≤ℤ c.args.row) c.args.boxes.now n no_box
    c.loop-n-test.true old_begun begun in
    elim c.if-row-b-2.branch [
      | then-row-b-2+in_ok-push w ↦
          let above = lt_from_test c.args.row b.y1
          (rw (row_is, to_z-of_z w64 b.y1 ends_fit) at w.if-row-b-2.true) in
          record {
            begun = rw row_is more;
            active = rw (w.active-is, w.in_ok-push.ensures.items, row_is)
                (HoldsJust-push c.args.boxes.now c.loop-n.active.items
                (λ (x : Box2). c.args.row <ℤ x.y1) n no_box c.loop-n-test.true old_active above);
          }
      | else-row-b-2 w ↦
          let ended = le_from_not_lt c.args.row b.y1
          (rw (row_is, to_z-of_z w64 b.y1 ends_fit) at w.if-row-b-2.false) in
          record {
            begun = rw row_is more;
            active = rw (w.active-is, row_is)
                (HoldsJust-skip c.args.boxes.now c.loop-n.active.items
                (λ (x : Box2). c.args.row <ℤ x.y1) n no_box c.loop-n-test.true old_active
                (λ p. omega (arith, ints, p, ended)));
          }
    ]

pub returns-clause-active : goal.returns-clause-active
returns-clause-active c =
    let e : c.loop-n.n ≡ length c.args.boxes.now =
    omega (arith, c.loop-n.auto.n-end c.requires.within) in
    subst (λ (m : ℕ). HoldsJust (take m c.args.boxes.now) (λ b. c.args.row <ℤ b.y1)
    c.loop-n.active.items) e (rw (to_z-of_z w64 c.args.row c.ranges.row) at
    c.loop-n.invariant.active)

pub returns-clause-exact : goal.returns-clause-exact
returns-clause-exact c =
    let row_is = to_z-of_z w64 c.args.row c.ranges.row in
    let active = rw row_is at c.loop-n.invariant.active in
    let begun = rw row_is at c.loop-n.invariant.begun in
    HoldsJust-row c.args.boxes.now c.loop-n.active.items c.args.row c.loop-n.n active begun
    (λ k d l g. absurd (omega (arith, l, g, c.loop-n-test.false)))

pub loop-n-init : goal.loop-n-init
loop-n-init c = rw (to_z-of_z w64 c.args.row c.ranges.row)
    (record { begun = c.requires.begun; active = c.requires.active })

pub returns-then-row-b-clause-active : goal.returns-then-row-b-clause-active
returns-then-row-b-clause-active c =
    rw (to_z-of_z w64 c.args.row c.ranges.row) at c.loop-n.invariant.active

pub returns-then-row-b-clause-begun : goal.returns-then-row-b-clause-begun
returns-then-row-b-clause-begun c =
    rw (to_z-of_z w64 c.args.row c.ranges.row) at c.loop-n.invariant.begun

pub returns-clause-begun : goal.returns-clause-begun
returns-clause-begun c =
    let e : c.loop-n.n ≡ length c.args.boxes.now =
    omega (arith, c.loop-n.auto.n-end c.requires.within) in
    subst (λ (m : ℕ). All (λ (b : Box2). b.y0 ≤ℤ c.args.row) (take m c.args.boxes.now)) e
    (rw (to_z-of_z w64 c.args.row c.ranges.row) at c.loop-n.invariant.begun)

pub returns-clause-ahead : goal.returns-clause-ahead
returns-clause-ahead c = λ k d l.
    absurd (omega (arith, l, length-drop (length c.args.boxes.now) c.args.boxes.now))
