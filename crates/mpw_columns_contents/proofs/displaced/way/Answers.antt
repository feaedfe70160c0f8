-- Answers to the goals of `way` in `src/displaced.rt`.
use Rattle.std.proofs.Common.{◌-ℤ◌, w64, FitsSigned, arith, rules}
use Rattle.std.proofs.lemmas.Int.{ints, to_z-of_z}
use Rattle.mpw_columns_contents.proofs.displaced.way.Goals as goal

pub returns-clause-way : goal.returns-clause-way
returns-clause-way c =
    let p = c.args.from in
    let q = c.args.to in
    let px : FitsSigned w64 p.x = search rules in
    let py : FitsSigned w64 p.y = search rules in
    let qx : FitsSigned w64 q.x = search rules in
    let qy : FitsSigned w64 q.y = search rules in
    let sx : FitsSigned w64 (q.x -ℤ p.x) =
    omega (
      arith,
      ints,
      c.requires.from.x.low,
      c.requires.from.x.high,
      c.requires.to.x.low,
      c.requires.to.x.high,
    ) in
    let sy : FitsSigned w64 (q.y -ℤ p.y) =
    omega (
      arith,
      ints,
      c.requires.from.y.low,
      c.requires.from.y.high,
      c.requires.to.y.low,
      c.requires.to.y.high,
    ) in
    simp to_z-of_z
