-- Answers to the goals of `run_of` in `src/pair.rt`.
use Rattle.std.proofs.Common.{rules, sym, w64}
use mir.Val.{SFits}
use Rattle.std.proofs.lemmas.Int.{to_z-of_z}
use Rattle.mpw_edges.proofs.Tests.{gt_from_test, ge_from_test}
use Rattle.mpw_edges.proofs.pair.run_of.Goals as goal

pub returns : goal.returns
returns c =
    let x1_fits : SFits w64 c.args.from.now.x = search rules in
    let x2_fits : SFits w64 c.args.to.now.x = search rules in
    let low_fits : SFits w64 c.in_ok-y0.y0 = search rules in
    let high_fits : SFits w64 c.in_ok-y0.y1 = search rules in
    let x1_is = to_z-of_z w64 c.args.from.now.x x1_fits in
    let x2_is = to_z-of_z w64 c.args.to.now.x x2_fits in
    let low_is = to_z-of_z w64 c.in_ok-y0.y0 low_fits in
    let high_is = to_z-of_z w64 c.in_ok-y0.y1 high_fits in
    let left_fits : SFits w64 c.args.limits.now.core.x0 = search rules in
    let right_fits : SFits w64 c.args.limits.now.core.x1 = search rules in
    let left_is = to_z-of_z w64 c.args.limits.now.core.x0 left_fits in
    let right_is = to_z-of_z w64 c.args.limits.now.core.x1 right_fits in
    let rows = c.in_ok-y0.ensures in
    let after = ge_from_test c.args.from.now.x c.args.limits.now.core.x0
    (rw (x1_is, left_is) at c.if-from-core.false) in
    let before = gt_from_test c.args.limits.now.core.x1 c.args.from.now.x
    (rw (x1_is, right_is) at c.if-core-from.false) in
    rw (x1_is, x2_is, low_is, high_is) (
      rows.0,
      λ line j. (
        λ h. (sym h.0, c.if-not-is_near.ensures, after, before, (rows.1 j).0 (h.1, h.2)),
        λ p. let inside = (rows.1 j).1 p.4 in (sym p.0, inside.0, inside.1),
      ),
    )
