-- The state of a search of a graph from its top: the path, and for each place the number of steps that are left there: one for each
-- target, one to leave it, and one more before it is entered.
use Rattle.std.specs.Prelude.{◌≡◌, ℕ, zero, suc, ◌<◌, ◌≤◌, ◌+◌, ◌*◌, List, length, take, slice_index, sum, All, Contains}
use Rattle.std.specs.List.{sum_by}
use Rattle.mpw_hier.specs.declared.order.Descent.{Descent}
use Rattle.mpw_hier.specs.Graph.{targets, Leads}

-- The number of places that aren't done.
abbrev pub is_left : ℕ → ℕ
is_left zero = 0
is_left (suc steps) = 1

unfoldable pub undone : List ℕ → ℕ
undone left = sum_by is_left left

pub record IsDescent (graph : List (List ℕ)) (top : ℕ) (left path order : List ℕ) : Type 0 where
  pub sized : length left ≡ length graph
  pub begun : slice_index left top ≤ length (targets graph top) + 1
  -- the path: places of the graph that were entered, each a target of the one before
  pub within : (k : ℕ) → k < length path → slice_index path k < length graph
  pub entered : (k : ℕ) → k < length path
      → slice_index left (slice_index path k) ≤ length (targets graph (slice_index path k)) + 1
  pub chained : (k : ℕ) → k + 1 < length path
      → Contains (targets graph (slice_index path k)) (slice_index path (k + 1))
  pub upto : (k : ℕ) → k < length path → Leads graph top (slice_index path k)
  pub apart : (k m : ℕ) → k < m → m < length path → slice_index path k ≡ slice_index path m → ⊥
  pub onward : (k : ℕ) → k < length path → 1 ≤ slice_index left (slice_index path k)
  pub counted : length order + undone left ≤ length graph
  -- a place is on the path, or all its steps are left, or it is done
  pub pathed : (i : ℕ) → i < length graph → 1 ≤ slice_index left i
      → slice_index left i ≤ length (targets graph i) + 1 → Contains path i
  pub done : (i : ℕ) → i < length graph → slice_index left i ≡ 0 → Contains order i
  -- the targets whose steps were taken are done
  pub scanned : (i n : ℕ) → i < length graph → n < length (targets graph i)
      → slice_index left i ≤ n + 1 → slice_index left (slice_index (targets graph i) n) ≡ 0
  pub found : All (Leads graph top) order
  pub below : (k j : ℕ) → k < length order → Contains (targets graph (slice_index order k)) j
      → Contains (take k order) j

abbrev pub IsUnderWay : List (List ℕ) → Descent → Type 0
IsUnderWay graph s = IsDescent graph s.top s.left.items s.path.items s.order.items

-- The number that falls with each step.
abbrev pub work : Descent → ℕ
work s = 2 * sum s.left.items + length s.path.items
