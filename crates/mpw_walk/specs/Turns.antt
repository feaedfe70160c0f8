-- The turns of a walk over placed submissions: one to enter each instance that has shapes, with its placed extent, and one
-- for each shape.
use Rattle.std.specs.Prelude.{ℕ, List, [], ◌∷◌, ◌++◌, map, length, slice_index_or, Option, option_map}
use Rattle.std.specs.List.{flat_map}
use Rattle.mpw_geom.specs.declared.plane.Box2.{Box2}
use Rattle.mpw_geom.specs.declared.placing.Placing.{Placing}
use Rattle.mpw_structures.specs.declared.element.Reference.{Reference}
use Rattle.mpw_structures.specs.declared.structures.Structure.{Structure}
use Rattle.mpw_hier.specs.declared.submission.Submission.{Submission}
use Rattle.mpw_hier.specs.Structures.{references}
use Rattle.mpw_hier.specs.Items.{Item, own_items, placed_item, placed_again, instances}
use Rattle.mpw_hier.specs.Boxes.{placed_box, extent_of}
use Rattle.mpw_hier.specs.Levels.{by_levels, levels_of}
use Rattle.mpw_hier.specs.Values.{bound_number, at_number, from_first, flat}
use Rattle.mpw_walk.specs.declared.root.Root.{Root}

-- A turn enters an instance, with the extent of its content, or gives a shape.
pub data Turn : Type 0 where
  enter : Option Box2 → Turn
  give : Item → Turn

-- ---- roots

-- The flat lists of placed submissions, one after another.
abbrev pub flat_root : List Submission → Root → List Item
flat_root ss root = map (placed_item root.placing) (flat ss root.submission)

unfoldable pub flat_roots : List Submission → List Root → List Item
flat_roots ss roots = flat_map (flat_root ss) roots

-- A root that is placed again.
abbrev pub placed_root : Placing → Root → Root
placed_root t root = record { submission = root.submission; placing = placed_again t root.placing }

-- ---- turns

-- What turns give, in order.
abbrev pub given : List Turn → List Item
given [] = []
given (enter extent ∷ turns) = given turns
given (give item ∷ turns) = item ∷ given turns

abbrev pub placed_turn : Placing → Turn → Turn
placed_turn t (enter extent) = enter (option_map (placed_box t) extent)
placed_turn t (give item) = give (placed_item t item)

-- An instance is entered, with the least box that contains its content, and then come the turns of that, all placed. What has no
-- shapes has no turns.
abbrev pub entered : List Turn → Placing → List Turn
entered [] t = []
entered (turn ∷ turns) t =
    map (placed_turn t) (enter (extent_of (given (turn ∷ turns))) ∷ turn ∷ turns)

abbrev pub placed_turns : Reference → List Turn → List Turn
placed_turns r turns = flat_map (entered turns) (instances r)

-- The turns of a structure: its own shapes, and then its targets, in file order.
abbrev pub shown_turns : ℕ → Structure → (List ℕ → List Turn) → List Turn
shown_turns number s below = map give (own_items number s.elements)
    ++ flat_map (λ r. placed_turns r (below r.name)) (references s.elements)

-- The turns of a structure of a submission after others with these turns, and of its top.
abbrev pub structure_turns : List (List Turn) → Submission → List ℕ → List Turn
structure_turns before s name =
    by_levels (shown_turns (length before)) []
    (λ outside. at_number [] before (bound_number s.bound outside)) (levels_of s.library)
    s.library name

abbrev pub submission_turns : List (List Turn) → Submission → List Turn
submission_turns before s = structure_turns before s s.top

unfoldable pub all_turns : List Submission → List (List Turn)
all_turns ss = from_first submission_turns [] ss

-- The turns of the submission with a number.
abbrev pub turns_of : List Submission → ℕ → List Turn
turns_of ss number = slice_index_or (all_turns ss) number []

-- Roots are entered one after another, as instances are.
abbrev pub root_turns : List Submission → Root → List Turn
root_turns ss root = entered (turns_of ss root.submission) root.placing

unfoldable pub roots_turns : List Submission → List Root → List Turn
roots_turns ss roots = flat_map (root_turns ss) roots

-- ---- a walk

-- A walk, by the number of its turns so far and its remaining turns.
pub record Walked : Type 0 where
  pub turns : ℕ
  pub left : List Turn

abbrev pub behind_first : List Turn → List Turn
behind_first [] = []
behind_first (enter extent ∷ turns) = behind_first turns
behind_first (give item ∷ turns) = turns
