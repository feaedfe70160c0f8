-- The placements on the wafer, here called placings. A cell and a label together identify each.
use Rattle.std.specs.Prelude.{◌≡◌, ◌≢◌, ℕ, ◌≤◌, ◌^◌, Bool, false, ◌&&◌, not, List, map, slice_get, All, AllPairs, Option, Some, None}
use Rattle.std.specs.List.{list_any, find, sum_by}
use Rattle.mpw_geom.specs.Names.{name_eq}
use Rattle.mpw_geom.specs.declared.plane.Box2.{Box2}
use Rattle.mpw_hier.specs.declared.submission.Submission.{Submission}
use Rattle.mpw_hier.specs.Boxes.{is_box_near}
use Rattle.mpw_hier.specs.Shelved.{IsOfCell}
use Rattle.mpw_hier.specs.Values.{count}
use Rattle.mpw_walk.specs.declared.root.Root.{Root}
use Rattle.mpw_tiles.specs.Snapshots.{AreRoots}
use Rattle.mpw_placings.specs.declared.placement.Placement.{Placement}
use Rattle.mpw_placings.specs.declared.placement.PlacementRef.{PlacementRef}

-- The placement that is lent.
abbrev pub placement_shown : PlacementRef → Placement
placement_shown p = record { cell = p.cell.now; label = p.label.now; root = p.root }

-- Whether the placement has that cell and that label.
abbrev pub is_at : List ℕ → List ℕ → Placement → Bool
is_at cell label p = name_eq p.cell cell && name_eq p.label label

-- Whether there is a placement of that cell and label.
abbrev pub is_taken : List Placement → List ℕ → List ℕ → Bool
is_taken ps cell label = list_any (is_at cell label) ps

-- The placed submissions, in order. A run doesn't see cells and labels.
abbrev pub roots_of : List Placement → List Root
roots_of ps = map (λ p. p.root) ps

-- The number of flat shapes of the placements together.
abbrev pub shape_count : List Submission → List Placement → ℕ
shape_count ss ps = sum_by (λ p. count ss p.root.submission) ps

-- Whether a box, if there is one, reaches beyond -2^30 to 2^30 nm.
abbrev pub is_far : Option Box2 → Bool
is_far None = false
is_far (Some box) = not (is_box_near box)

-- The version of the submission that is placed under that cell and label, if there is one.
abbrev pub version_of : Option Submission → Option ℕ
version_of None = None
version_of (Some s) = Some s.version

abbrev pub version_placed : List Submission → Option Placement → Option ℕ
version_placed ss None = None
version_placed ss (Some p) = version_of (slice_get ss p.root.submission)

unfoldable pub version_at : List Submission → List Placement → List ℕ → List ℕ → Option ℕ
version_at ss ps cell label = version_placed ss (find (is_at cell label) ps)

-- Two placements differ in their cells or in their labels.
abbrev pub DifferInName : Placement → Placement → Type 0
DifferInName p q = p.cell ≡ q.cell → p.label ≢ q.label

-- A placement is of a submission of its cell.
abbrev pub IsOfItsCell : List Submission → Placement → Type 0
IsOfItsCell ss p = IsOfCell ss p.cell p.root.submission

-- Placements that fit a shelf: no two have the same cell and label, each is of a submission of its cell, all
-- have at most 2^20 shapes together, and a snapshot can have their roots: at most 4096, each on the shelf and
-- near its place.
pub record ArePlacings (ss : List Submission) (ps : List Placement) : Type 0 where
  pub apart : AllPairs DifferInName ps
  pub cells : All (IsOfItsCell ss) ps
  pub small : shape_count ss ps ≤ 2 ^ 20
  pub roots : AreRoots ss (roots_of ps)
