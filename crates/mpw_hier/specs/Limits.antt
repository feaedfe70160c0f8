-- The limits that a new submission must meet, in the order of the tests: extents, shapes, height, room.
use Rattle.std.specs.Prelude.{◌≡◌, ℕ, ◌+◌, ◌^◌, ◌&&◌, ◌||◌, Bool, false, nat_lt, List, length, map, take, slice_get, is_some, Some, true}
use Rattle.std.specs.Set.{distinct_count}
use Rattle.mpw_geom.specs.Names.{name_eq}
use Rattle.mpw_geom.specs.declared.plane.Box2.{Box2}
use Rattle.mpw_structures.specs.Library.{IsLibrary}
use Rattle.mpw_structures.specs.Places.{place_of}
use Rattle.mpw_hier.specs.declared.fault.HierFault.{HierFault}
use Rattle.mpw_hier.specs.declared.fault.HierFault.TheVariants as faults
use Rattle.mpw_hier.specs.declared.submission.Submission.{Submission}
use Rattle.mpw_hier.specs.Structures.{IsReachable}
use Rattle.mpw_hier.specs.Outside.{AreExternals}
use Rattle.mpw_hier.specs.Boxes.{extent_of, is_box_near}
use Rattle.mpw_hier.specs.Shelf.{present, versions, bound_to}
use Rattle.mpw_hier.specs.Values.{structure_items, flat_of, flats, height_of, heights}

-- The extent of the top, or of a structure of the library that the top reaches, exceeds 2^30 nm in its own
-- coordinates.
pub record IsFar (ss : List Submission) (s : Submission) : Type 0 where
  pub structure : List ℕ
  pub place : ℕ
  pub inside : place_of s.library structure ≡ Some place
  pub below : IsReachable s.library s.top structure
  pub box : Box2
  pub extent : extent_of (structure_items (flats ss) s structure) ≡ Some box
  pub far : is_box_near box ≡ false

-- The flat list has more shapes than allowed.
abbrev pub is_too_large : (most : ℕ) → List Submission → Submission → Bool
is_too_large most ss s = nat_lt most (length (flat_of (flats ss) s))

-- More than 64 levels.
abbrev pub is_too_deep : List Submission → Submission → Bool
is_too_deep ss s = nat_lt 64 (height_of (heights ss) s)

-- Fewer than 4096 submissions; and fewer than 1024 cells if the cell has no submission yet.
abbrev pub has_room_for : List Submission → List ℕ → Bool
has_room_for ss cell = nat_lt (length ss) 4096
    && (is_some (present ss cell) || nat_lt (distinct_count name_eq (map (λ s. s.cell) ss)) 1024)

-- The submission with its version, counted from 1 for each cell.
abbrev pub numbered : List Submission → Submission → Submission
numbered ss s = record s { version = versions ss s.cell + 1 }

-- The bindings are those of the names outside the library that the top reaches.
pub record IsBound (ss : List Submission) (s : Submission) : Type 0 where
  pub names : List (List ℕ)
  pub externals : AreExternals s.library s.top names
  pub bound : bound_to ss names ≡ Some s.bound

-- All limits are met, with at most `most` shapes in the flat list.
pub record KeepsLimits (most : ℕ) (ss : List Submission) (s : Submission) : Type 0 where
  pub near : IsFar ss s → ⊥
  pub small : is_too_large most ss s ≡ false
  pub low : is_too_deep ss s ≡ false
  pub room : has_room_for ss s.cell ≡ true

-- A submission after others, as it was put on the shelf: read, bound to those before it, with its version, and within the limits of any
-- shelf, whose limit on shapes is 2^40.
pub record IsSubmitted (ss : List Submission) (s : Submission) : Type 0 where
  pub read : IsLibrary s.library
  pub bound : IsBound ss s
  pub kept : KeepsLimits (2 ^ 40) ss s
  pub version : s.version ≡ versions ss s.cell + 1

-- This holds for each submission of a shelf, after those before it.
abbrev pub IsShelf : List Submission → Type 0
IsShelf ss =
    (number : ℕ) (s : Submission) → slice_get ss number ≡ Some s → IsSubmitted (take number ss) s

-- Why a submission that is bound is refused if the flat list may have at most `most` shapes: the first limit that it
-- exceeds, or out of memory.
abbrev pub IsRefused : (most : ℕ) → List Submission → Submission → HierFault → Type 0
IsRefused most ss s faults.Memory = Unit {0}
IsRefused most ss s faults.Extent = IsFar ss s
IsRefused most ss s faults.Shapes = (IsFar ss s → ⊥) × (is_too_large most ss s ≡ true)
IsRefused most ss s faults.Deep =
    (IsFar ss s → ⊥) × ((is_too_large most ss s ≡ false) × (is_too_deep ss s ≡ true))
IsRefused most ss s faults.Full = (IsFar ss s → ⊥)
    × ((is_too_large most ss s ≡ false) × ((is_too_deep ss s ≡ false)
    × (has_room_for ss s.cell ≡ false)))
IsRefused most ss s faults.NoTop = ⊥
IsRefused most ss s faults.Cycle = ⊥
IsRefused most ss s faults.NoCell = ⊥
