-- The contents of names for a submission, and their turns.
use Rattle.std.specs.Prelude.{◌≡◌, ℕ, List, length, map}
use Rattle.mpw_structures.specs.declared.structures.Structure.{Structure}
use Rattle.mpw_hier.specs.declared.submission.Submission.{Submission}
use Rattle.mpw_hier.specs.Items.{own_items}
use Rattle.mpw_hier.specs.Values.{flats}
use Rattle.mpw_hier.specs.Named.{OwnNamesAreShown, OuterNamesAreShown, LastNodesAreTops, OwnNamesAreListed, OuterNamesAreListed, TopsAreListed}
use Rattle.mpw_walk.specs.Internal.Extents.{ExtentsAreWalked}
use Rattle.mpw_walk.specs.Turns.{Turn, give, placed_turns}

-- The turns of a structure's own shapes.
abbrev pub own_turns : ℕ → Structure → List Turn
own_turns number s = map give (own_items number s.elements)

-- The content of a name is that of its structure, or of the top of its submission; and so are its turns.
-- Extents are least boxes.
pub record NamesAreWalked : Type 0 where
  pub own : OwnNamesAreShown
  pub outer : OuterNamesAreShown
  pub last : LastNodesAreTops
  pub many : (ss : List Submission) → length (flats ss) ≡ length ss
  pub own_turns_are : OwnNamesAreListed own_turns placed_turns
  pub outer_turns_are : OuterNamesAreListed own_turns placed_turns
  pub top_turns_are : TopsAreListed own_turns placed_turns
  pub extents : ExtentsAreWalked
