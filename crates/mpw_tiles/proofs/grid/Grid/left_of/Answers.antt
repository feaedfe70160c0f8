-- Answers to the goals of `Grid::left_of` in `src/grid.rt`.
use Rattle.std.proofs.Common.{arith}
use Rattle.std.proofs.lemmas.Int.{ints}
use Rattle.mpw_tiles.specs.Grid.{column_of}
use Rattle.mpw_tiles.proofs.Cores.{begins_left, begins_at}
use Rattle.mpw_tiles.proofs.grid.Grid.left_of.Goals as goal

pub distance-requires : goal.distance-requires
distance-requires c =
    let b = begins_left _ _ _ _ c.args.cell c.self.view_is c.self.invariant in
    let s = b.short in
    omega arith

pub overflow_add-result : goal.overflow_add-result
overflow_add-result c =
    let b = begins_left _ _ _ _ c.args.cell c.self.view_is c.self.invariant in
    omega (arith, ints, c.distance.ensures, b.short, b.plane.low, b.plane.high)

pub returns-clause-place : goal.returns-clause-place
returns-clause-place c =
    let b = begins_left _ _ _ _ c.args.cell c.self.view_is c.self.invariant in
    begins_at (λ g. g.extent.x0) column_of _ c.args.self.now c.args.cell _ _ b
    (omega (arith, ints, c.distance.ensures, b.short, b.plane.low, b.plane.high))

pub returns-clause-short : goal.returns-clause-short
returns-clause-short c =
    (begins_left _ _ _ _ c.args.cell c.self.view_is c.self.invariant).seen_short
