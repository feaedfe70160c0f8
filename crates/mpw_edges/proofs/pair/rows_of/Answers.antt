-- Answers to the goals of `rows_of` in `src/pair.rt`.
use Rattle.std.proofs.Common.{ℤ, ◌≤ℤ◌, ◌<ℤ◌, arith, rules, w64}
use Rattle.std.specs.Prelude.{◌↔◌}
use mir.Val.{SFits}
use Rattle.std.proofs.lemmas.Int.{ints, to_z-of_z}
use Rattle.mpw_geom.proofs.Tests.{le_from_test}
use Rattle.mpw_edges.specs.Internal.Pairs.{IsInRows}
use Rattle.mpw_edges.proofs.Tests.{gt_from_test}
use Rattle.mpw_edges.proofs.pair.rows_of.Goals as goal
use Rattle.mpw_edges.proofs.pair.rows_of.Goals.{After-least-y1}

-- the rows between the two are those of both edges and of the core
between : (c : After-least-y1) → (j : ℤ)
    → ((c.greatest-y0.result ≤ℤ j) × (j <ℤ c.least-y1.result))
    ↔ IsInRows c.args.core.now c.args.from.now c.args.to.now j
between c j = (
  λ h.
      let low = (c.greatest-y0.ensures j).0 h.0 in
      let high = (c.least-y1.ensures j).0 h.1 in (
        (omega (arith, ints, low.0), omega (arith, ints, high.0)),
        (omega (arith, ints, low.1), omega (arith, ints, high.1)),
        omega (arith, ints, low.2),
        omega (arith, ints, high.2),
      ),
  λ p. (
    (c.greatest-y0.ensures j).1 (
      omega (arith, ints, p.0.0),
      omega (arith, ints, p.1.0),
      omega (arith, ints, p.2),
    ),
    (c.least-y1.ensures j).1 (
      omega (arith, ints, p.0.1),
      omega (arith, ints, p.1.1),
      omega (arith, ints, p.3),
    ),
  ),
)

pub returns-then-y1-y0 : goal.returns-then-y1-y0
returns-then-y1-y0 c = λ j p.
    let low_fits : SFits w64 c.greatest-y0.result = search rules in
    let high_fits : SFits w64 c.least-y1.result = search rules in
    let met = le_from_test c.least-y1.result c.greatest-y0.result
    (simp to_z-of_z at c.if-y1-y0.true) in
    let rows = (between (goal.at.returns-then-y1-y0 c).After-least-y1 j).1 p in
    absurd (omega (arith, ints, rows.0, rows.1, met))

pub returns : goal.returns
returns c =
    let low_fits : SFits w64 c.greatest-y0.result = search rules in
    let high_fits : SFits w64 c.least-y1.result = search rules in
    let apart = gt_from_test c.least-y1.result c.greatest-y0.result
    (simp to_z-of_z at c.if-y1-y0.false) in
    let rows = between (goal.at.returns c).After-least-y1 in (
      omega (arith, ints, apart),
      λ j. (
        λ h. (rows j).0 (omega (arith, ints, h.0), omega (arith, ints, h.1)),
        λ p. let h = (rows j).1 p in (omega (arith, ints, h.0), omega (arith, ints, h.1)),
      ),
    )
