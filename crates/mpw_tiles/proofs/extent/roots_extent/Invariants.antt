-- The invariants of the loops of `roots_extent` in `src/extent.rt`.
use Rattle.std.proofs.Common.{◌≡◌, true, drop}
use Rattle.std.specs.Prelude.{IfSome}
use Rattle.mpw_hier.specs.Boxes.{hull, is_box_near}
use Rattle.mpw_walk.specs.Roots.{roots_extent}
use Rattle.mpw_tiles.proofs.extent.roots_extent.Given as goal

abbrev pub invariant-loop-root : goal.invariant-loop-root
invariant-loop-root l = record {
  whole : hull l.extent (roots_extent l.shelf (drop l.root-index l.roots)) ≡ roots_extent l.shelf
      l.roots;
  near : IfSome l.extent (λ b. is_box_near b ≡ true);
}
