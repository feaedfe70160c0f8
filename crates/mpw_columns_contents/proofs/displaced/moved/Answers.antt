-- Answers to the goals of `moved` in `src/displaced.rt`.
use Rattle.std.proofs.Common.{◌+ℤ◌, w64, FitsSigned, arith, rules}
use Rattle.std.proofs.lemmas.Int.{ints, to_z-of_z}
use Rattle.mpw_columns_contents.proofs.displaced.moved.Goals as goal

pub returns : goal.returns
returns c =
    let p = c.args.point in
    let d = c.args.d in
    let px : FitsSigned w64 p.x = search rules in
    let py : FitsSigned w64 p.y = search rules in
    let dx : FitsSigned w64 d.x = search rules in
    let dy : FitsSigned w64 d.y = search rules in
    let sx : FitsSigned w64 (p.x +ℤ d.x) =
    omega (
      arith,
      ints,
      c.requires.point.x.low,
      c.requires.point.x.high,
      c.requires.way.x.low,
      c.requires.way.x.high,
    ) in
    let sy : FitsSigned w64 (p.y +ℤ d.y) =
    omega (
      arith,
      ints,
      c.requires.point.y.low,
      c.requires.point.y.high,
      c.requires.way.y.low,
      c.requires.way.y.high,
    ) in
    simp to_z-of_z
