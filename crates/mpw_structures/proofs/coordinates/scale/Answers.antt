-- Answers to the goals of `scale` in `src/coordinates.rt`.
use Rattle.std.proofs.Common.{◌^◌, pos, ◌*ℤ◌, refl, arith, rules}
use mir.Syntax.{w32, w64}
use mir.Val.{SFits}
use Rattle.std.proofs.lemmas.Int.{ints, to_z-of_z, fits_signed_mul}
use Rattle.mpw_structures.specs.Coordinates.{scaled}
use Rattle.mpw_structures.proofs.TextPoints.{scaled_bound}
use Rattle.mpw_structures.proofs.coordinates.scale.Goals as goal

pub returns-clause-value : goal.returns-clause-value
unfolding scaled
returns-clause-value c =
    let x = c.read_i32.result in
    let narrow : SFits w32 x = search rules in
    let wide : SFits w64 x = search rules in
    let unit : SFits w64 (pos c.args.unit) = search rules in
    let product = fits_signed_mul w64 x (pos c.args.unit) (2 ^ 31) 1000 (omega (arith, ints))
    (omega arith) (omega arith) in
    rw (
      c.from.ensures,
      c.from-2.ensures,
      to_z-of_z w32 x narrow,
      to_z-of_z w64 x wide,
      to_z-of_z w64 (pos c.args.unit) unit,
      to_z-of_z w64 (x *ℤ pos c.args.unit) product,
      c.read_i32.ensures,
    ) refl

pub returns-clause-bound : goal.returns-clause-bound
returns-clause-bound c =
    rw (returns-clause-value c) (scaled_bound c.args.unit c.args.bytes.now c.requires.unit)

pub overflow_mul-result : goal.overflow_mul-result
overflow_mul-result c =
    let x = c.read_i32.result in
    let narrow : SFits w32 x = search rules in
    let wide : SFits w64 x = search rules in
    let unit : SFits w64 (pos c.args.unit) = search rules in
    rw (
      c.from.ensures,
      c.from-2.ensures,
      to_z-of_z w32 x narrow,
      to_z-of_z w64 x wide,
      to_z-of_z w64 (pos c.args.unit) unit,
    ) (fits_signed_mul w64 x (pos c.args.unit) (2 ^ 31) 1000 (omega (arith, ints))
    (omega arith) (omega arith))
