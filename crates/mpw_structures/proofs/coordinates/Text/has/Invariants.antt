-- The invariants of the loops of `Text::has` in `src/coordinates.rt`.
use Rattle.std.proofs.Common.{◌≡◌, take}
use Rattle.mpw_structures.specs.Internal.Coordinates.{points_from}
use Rattle.mpw_structures.proofs.coordinates.Text.has.Given as goal

-- the points so far are those of the text
abbrev pub invariant-loop-index : goal.invariant-loop-index
invariant-loop-index l =
    points_from l.self.unit l.self.bytes.value.items l.at l.index ≡ take l.index l.points
