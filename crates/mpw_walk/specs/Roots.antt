-- Roots: submissions where they were drawn, and the size of roots.
use Rattle.std.specs.Prelude.{ℕ, pos, List, [], ◌∷◌, Option, None, option_map}
use Rattle.std.specs.List.{sum_by}
use Rattle.mpw_geom.specs.declared.plane.Box2.{Box2}
use Rattle.mpw_geom.specs.declared.plane.Orient.TheVariants.{R0}
use Rattle.mpw_hier.specs.declared.submission.Submission.{Submission}
use Rattle.mpw_hier.specs.Boxes.{hull, placed_box}
use Rattle.mpw_hier.specs.Values.{count, extent}
use Rattle.mpw_walk.specs.declared.root.Root.{Root}

-- A submission where it was drawn, neither turned nor displaced.
abbrev pub root_at_origin : ℕ → Root
root_at_origin number = record {
  submission = number;
  placing = record { orient = R0; by = record { x = pos 0; y = pos 0 } };
}

-- The extent of a submission, placed.
abbrev pub root_extent : List Submission → Root → Option Box2
root_extent ss root = option_map (placed_box root.placing) (extent ss root.submission)

-- The least box that contains the extents of roots.
unfoldable pub roots_extent : List Submission → List Root → Option Box2
roots_extent ss [] = None
roots_extent ss (root ∷ roots) = hull (root_extent ss root) (roots_extent ss roots)

-- The number of shapes of roots.
abbrev pub roots_count : List Submission → List Root → ℕ
roots_count ss roots = sum_by (λ root. count ss root.submission) roots
