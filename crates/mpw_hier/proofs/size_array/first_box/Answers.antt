-- Answers to the goals of `first_box` in `src/size_array.rt`.
use Rattle.std.proofs.Common.{refl, sym, subst, arith}
use Rattle.std.proofs.lemmas.Int.{ints}
use Rattle.mpw_geom.specs.Plane.{IsInPlane}
use Rattle.mpw_hier.specs.Boxes.{placed_box}
use Rattle.mpw_hier.proofs.Nearness.{close_box}
use Rattle.mpw_hier.proofs.size_array.first_box.Goals as goal

pub apply-p-requires-clause-point : goal.apply-p-requires-clause-point
apply-p-requires-clause-point c =
    let h = close_box c.args.b c.requires.near in
    subst IsInPlane (sym c.low_corner.ensures) (record {
      x = record { low = omega (arith, ints); high = omega (arith, ints) };
      y = record { low = omega (arith, ints); high = omega (arith, ints) };
    })

pub apply-q-requires-clause-point : goal.apply-q-requires-clause-point
apply-q-requires-clause-point c =
    let h = close_box c.args.b c.requires.near in
    subst IsInPlane (sym c.high_corner.ensures) (record {
      x = record { low = omega (arith, ints); high = omega (arith, ints) };
      y = record { low = omega (arith, ints); high = omega (arith, ints) };
    })

pub returns : goal.returns
unfolding placed_box
returns c = rw (
  c.between.ensures,
  c.apply-p.ensures,
  c.apply-q.ensures,
  c.low_corner.ensures,
  c.high_corner.ensures,
) refl
