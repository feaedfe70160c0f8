-- The path of a walk: the structures that it has entered, their remaining turns, and the invariant of the path.
use Rattle.std.specs.Prelude.{◌≡◌, ◌≤◌, ◌<◌, ◌+◌, ◌^◌, ℕ, List, ◌++◌, length, drop, slice_get, fold, All, Option, Some}
use Rattle.mpw_geom.specs.declared.plane.Box2.{Box2}
use Rattle.mpw_geom.specs.Plane.{IsInPlane}
use Rattle.mpw_structures.specs.Element.{IsElement}
use Rattle.mpw_structures.specs.Library.{IsLibrary}
use Rattle.mpw_hier.specs.declared.submission.Submission.{Submission}
use Rattle.mpw_hier.specs.Items.{Item}
use Rattle.mpw_walk.specs.declared.frame.Frame.{Frame}
use Rattle.mpw_walk.specs.declared.root.Root.{Root}
use Rattle.mpw_walk.specs.declared.root.Placed.{Placed}
use Rattle.mpw_walk.specs.declared.way.Way.{Way}
use Rattle.mpw_walk.specs.Turns.{Turn, given, roots_turns, Walked}
use Rattle.mpw_walk.specs.Window.{taken}
use Rattle.mpw_walk.specs.Near.{IsCloseItem}
use Rattle.mpw_walk.specs.Frames.{turns_to_come, IsFrame}

-- Each library on the shelf is one that reading gives.
abbrev pub AreRead : List Submission → Type 0
AreRead ss = All (λ (s : Submission). IsLibrary s.library) ss

-- The remaining turns of frames, the last one's first, and then those of the remaining roots: all of them, and those that a walk takes.
unfoldable pub left_of : List Submission → List Root → ℕ → List Frame → List Turn
left_of ss roots root frames =
    fold (λ turns f. turns_to_come ss f ++ turns) (roots_turns ss (drop root roots)) frames

abbrev pub left_in : Option Box2 → List Submission → List Root → ℕ → List Frame → List Turn
left_in window ss roots root frames = taken window (left_of ss roots root frames)

abbrev pub walked : Way → List Frame → Walked
walked w frames =
    record { turns = w.turns; left = left_in w.window w.shelf.now w.roots.now w.root frames }

-- The remaining turns of a path.
abbrev pub left : Way → List Turn
left w = left_in w.window w.shelf.now w.roots.now w.root w.frames.items

-- Frames on the path, each with fewer levels than the one before, and the number of turns since the beginning.
pub record IsOnWay (window : Option Box2) (ss : List Submission) (roots : List Root)
    (root turns : ℕ) (frames : List Frame) : Type 0 where
  pub read : AreRead ss
  pub present : All (λ (root : Root). root.submission < length ss) roots
  pub begun : root ≤ length roots
  pub each : (k : ℕ) (f : Frame) → slice_get frames k ≡ Some f
      → IsFrame ss f × (k + f.node.now.size.height ≤ 64)
  pub close : All IsCloseItem (given (left_of ss roots root frames))
  pub few : turns + length (left_in window ss roots root frames) < 2 ^ 64

abbrev pub IsWay : Way → List Frame → Type 0
IsWay w frames = IsOnWay w.window w.shelf.now w.roots.now w.root w.turns frames

-- ---- steps

-- A shape in a flat list, as it is given.
abbrev pub item_of : Placed → Item
item_of placed =
    record { origin = placed.origin; placing = placed.placing; element = placed.element.now }

-- A shape that can be placed: an element as reading gives it, and a displacement that a caller may pass.
pub record IsPlaceable (placed : Placed) : Type 0 where
  pub element : IsElement placed.element.now
  pub displacement : IsInPlane placed.placing.by
