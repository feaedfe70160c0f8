-- What a run checks, and the windows that represent it.
use Rattle.std.specs.Prelude.{◌≡◌, ◌≤◌, ◌^◌, List, [], length, All, Option, Some, None, nat_le, if◌then◌else◌}
use Rattle.mpw_geom.specs.declared.plane.Box2.{Box2}
use Rattle.mpw_deck.specs.Decks.{Deck, IsDeck}
use Rattle.mpw_hier.specs.declared.submission.Submission.{Submission}
use Rattle.mpw_hier.specs.Boxes.{extent_of}
use Rattle.mpw_hier.specs.Items.{Item}
use Rattle.mpw_hier.specs.Limits.{IsShelf}
use Rattle.mpw_walk.specs.declared.root.Root.{Root}
use Rattle.mpw_walk.specs.Roots.{roots_count}
use Rattle.mpw_walk.specs.Turns.{flat_roots}
use Rattle.mpw_walk.specs.Walk.{IsRoot}
use Rattle.mpw_tiles.specs.declared.listing.Rectangle.{Rectangle}
use Rattle.mpw_tiles.specs.Listing.{AreWindowsOf, ListNear}
use Rattle.mpw_tiles.specs.Plan.{Tiling, plan_of, tiles}
use Rattle.mpw_tiles.specs.Shown.{IsShown}

-- A deck, placed submissions in order, and the shelf that has them.
pub record Snapshot : Type 0 where
  pub deck : Deck
  pub roots : List Root
  pub shelf : List Submission

-- There are at most 4096 roots, each fits the shelf, and together they have at most 2^40 flat shapes.
pub record AreRoots (shelf : List Submission) (roots : List Root) : Type 0 where
  pub few : length roots ≤ 4096
  pub fit : All (IsRoot shelf) roots
  pub small : roots_count shelf roots ≤ 2 ^ 40

-- The properties of a snapshot.
pub record IsSnapshot (s : Snapshot) : Type 0 where
  pub deck : IsDeck s.deck
  pub shelf : IsShelf s.shelf
  pub roots : AreRoots s.shelf s.roots

-- The flat shapes of its roots, and the least box that contains them.
abbrev pub shown : Snapshot → List Item
shown s = flat_roots s.shelf s.roots

abbrev pub shown_extent : Snapshot → Option Box2
shown_extent s = extent_of (shown s)

-- A plan of at most 4096 tiles.
abbrev pub small_plan : Tiling → Option Tiling
small_plan plan = if nat_le (tiles plan) 4096 then Some plan else None

abbrev pub plan_over : Deck → Option Box2 → Option Tiling
plan_over deck None = None
plan_over deck (Some extent) = small_plan (plan_of extent deck)

-- The plan of the tiles over all shapes; none without shapes, or if there would be more than 4096 tiles.
abbrev pub plan_for : Snapshot → Option Tiling
plan_for s = plan_over s.deck (shown_extent s)

abbrev pub AreWindowsFor : Option Tiling → List Item → List (List Rectangle) → Type 0
AreWindowsFor None items windows = windows ≡ []
AreWindowsFor (Some plan) items windows = AreWindowsOf plan (IsShown items) windows

-- The windows represent the snapshot: those of its plan have exactly the squares of its roots' shapes. Without a plan there
-- are none.
abbrev pub StandFor : Snapshot → List (List Rectangle) → Type 0
StandFor s windows = AreWindowsFor (plan_for s) (shown s) windows

-- Each rectangle that they list has a unit square of its tile's window.
abbrev pub ListNearby : Snapshot → List (List Rectangle) → Type 0
ListNearby s windows = (plan : Tiling) → plan_for s ≡ Some plan → ListNear plan windows
