-- What a walk within a window skips: if an instance's placed extent misses the window, none of its content touches the window.
use Rattle.std.specs.Prelude.{◌≡◌, ◌<◌, ℕ, false, List, [], ◌∷◌, length, map, option_map}
use Rattle.mpw_geom.specs.declared.plane.Box2.{Box2}
use Rattle.mpw_geom.specs.declared.placing.Placing.{Placing}
use Rattle.mpw_hier.specs.declared.submission.Submission.{Submission}
use Rattle.mpw_hier.specs.Boxes.{placed_box, extent_of}
use Rattle.mpw_hier.specs.Values.{structure_items, flats, count}
use Rattle.mpw_walk.specs.declared.root.Root.{Root}
use Rattle.mpw_walk.specs.Roots.{root_extent}
use Rattle.mpw_walk.specs.Turns.{enter, placed_turn, entered, structure_turns, all_turns, turns_of, root_turns}
use Rattle.mpw_walk.specs.Window.{is_met, turns_met}

-- The turn that enters a root, or an instance of a structure, has the extent of its content, placed.
abbrev pub RootsCarryTheirExtents : Type 0
RootsCarryTheirExtents =
    (ss : List Submission) (root : Root) → 0 < count ss root.submission
    → root_turns ss root ≡ enter (root_extent ss root)
    ∷ map (placed_turn root.placing) (turns_of ss root.submission)

abbrev pub InstancesCarryTheirExtents : Type 0
InstancesCarryTheirExtents =
    (ss : List Submission) (s : Submission) (name : List ℕ) (t : Placing)
    → 0 < length (structure_items (flats ss) s name)
    → entered (structure_turns (all_turns ss) s name) t
    ≡ enter (option_map (placed_box t) (extent_of (structure_items (flats ss) s name)))
    ∷ map (placed_turn t) (structure_turns (all_turns ss) s name)

-- If it misses the window, no turn of its content touches the window.
abbrev pub MissedRootsShowNothing : Type 0
MissedRootsShowNothing =
    (window : Box2) (ss : List Submission) (root : Root)
    → is_met window (root_extent ss root) ≡ false → turns_met window (root_turns ss root) ≡ []

abbrev pub MissedInstancesShowNothing : Type 0
MissedInstancesShowNothing =
    (window : Box2) (ss : List Submission) (s : Submission) (name : List ℕ) (t : Placing)
    → is_met window (option_map (placed_box t) (extent_of (structure_items (flats ss) s name)))
    ≡ false → turns_met window (entered (structure_turns (all_turns ss) s name) t) ≡ []
