-- What a shelf has in addition to its submissions: the table of the present ones, and the nodes of each.
use Rattle.std.specs.Prelude.{◌≡◌, ℕ, List, length, slice_get, Some, if◌then◌else◌}
use Rattle.std.specs.Ordering.{is_eq}
use Rattle.std.specs.BTreeMap as tree
use Rattle.std.specs.BTreeMap.{BTreeMap}
use Rattle.mpw_geom.specs.Names.{name_cmp}
use Rattle.mpw_hier.specs.declared.submission.Submission.{Submission}
use Rattle.mpw_hier.specs.declared.node.Node.{Node}
use Rattle.mpw_hier.specs.Shelf.{present}
use Rattle.mpw_hier.specs.Limits.{IsShelf}
use Rattle.mpw_hier.specs.Nodes.{AreNodes}

-- A shelf with a table and with nodes for each submission.
pub record IsShelved (table : BTreeMap (List ℕ) ℕ) (nodes : List (List Node))
    (ss : List Submission) : Type 0 where
  -- The table has the present submission of each cell.
  pub present_at : (cell : List ℕ) → tree.get name_cmp table cell ≡ present ss cell
  pub nodes_each : length nodes ≡ length ss
  pub nodes_at : (number : ℕ) (of : List Node) → slice_get nodes number ≡ Some of
      → AreNodes ss number of
  pub submitted : IsShelf ss

-- A table with one more entry, or another one for its cell.
abbrev pub IsEntered : (old new : BTreeMap (List ℕ) ℕ) (cell : List ℕ) (number : ℕ) → Type 0
IsEntered old new cell number =
    (q : List ℕ) → tree.get name_cmp new q ≡ (if is_eq (name_cmp cell q) then Some number
    else tree.get name_cmp old q)
