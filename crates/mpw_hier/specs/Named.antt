-- The contents of names, for a submission on a shelf: those of its own structures, and those of earlier submissions for names outside its library.
use Rattle.std.specs.Prelude.{◌≡◌, ℕ, ◌-◌, ◌<◌, ◌≤◌, ◌^◌, List, [], ◌++◌, length, take, slice_get, slice_index_or, Some, None}
use Rattle.std.specs.List.{flat_map}
use Rattle.mpw_structures.specs.declared.element.Reference.{Reference}
use Rattle.mpw_structures.specs.declared.structures.Structure.{Structure}
use Rattle.mpw_structures.specs.Places.{place_of}
use Rattle.mpw_hier.specs.declared.node.Node.{Node}
use Rattle.mpw_hier.specs.declared.submission.Submission.{Submission}
use Rattle.mpw_hier.specs.Structures.{references}
use Rattle.mpw_hier.specs.Levels.{by_levels, levels_of}
use Rattle.mpw_hier.specs.Items.{shown_items}
use Rattle.mpw_hier.specs.Nodes.{structure_levels, AreNodesOf, AreNodes}
use Rattle.mpw_hier.specs.Sizes.{IsSizeOf}
use Rattle.mpw_hier.specs.Values.{from_first, bound_number, at_number, structure_items, flat_of, flats, flat, shown_height, height_of, heights, height}

-- The structure with a name of a submission's own library, and its node.
pub record IsOwnName (ss : List Submission) (number : ℕ) (s : Submission) (structure : Structure)
    (node : Node) (name : List ℕ) : Type 0 where
  pub is : slice_get ss number ≡ Some s
  pub nodes : List Node
  pub nodes_are : AreNodesOf (flats (take number ss)) (heights (take number ss)) s nodes
  pub place : ℕ
  pub at : slice_get nodes place ≡ Some node
  pub structure_is : slice_get s.library node.structure ≡ Some structure
  pub named : place_of s.library name ≡ Some node.structure

-- A name outside the library, with the earlier submission to which it is bound.
pub record IsOuterName (ss : List Submission) (number : ℕ) (s : Submission) (to : ℕ)
    (t : Submission) (name : List ℕ) : Type 0 where
  pub is : slice_get ss number ≡ Some s
  pub outside : place_of s.library name ≡ None
  pub bound : bound_number s.bound name ≡ Some to
  pub earlier : to < number
  pub to_is : slice_get ss to ≡ Some t

-- ---- flat lists and heights

-- A name of the library has the content of its structure, made from the names to which that refers, and its node has that size.
pub record IsShownByNode (ss : List Submission) (number : ℕ) (s : Submission)
    (structure : Structure) (node : Node) (name : List ℕ) : Type 0 where
  pub items : structure_items (flats (take number ss)) s name ≡ shown_items number structure
      (structure_items (flats (take number ss)) s)
  pub levels : structure_levels (heights (take number ss)) s name ≡ shown_height structure
      (structure_levels (heights (take number ss)) s)
  pub size : IsSizeOf (structure_items (flats (take number ss)) s name)
      (structure_levels (heights (take number ss)) s name) node.size

abbrev pub OwnNamesAreShown : Type 0
OwnNamesAreShown =
    (ss : List Submission) (number : ℕ) (s : Submission) (structure : Structure) (node : Node)
    (name : List ℕ)
    → IsOwnName ss number s structure node name → IsShownByNode ss number s structure node name

-- A name outside the library has the content of the top of its submission when that came.
pub record IsShownByTop (ss : List Submission) (number : ℕ) (s : Submission) (to : ℕ)
    (t : Submission) (name : List ℕ) : Type 0 where
  pub items : structure_items (flats (take number ss)) s name ≡ flat_of (flats (take to ss)) t
  pub levels : structure_levels (heights (take number ss)) s name ≡ height_of (heights (take to ss))
      t

abbrev pub OuterNamesAreShown : Type 0
OuterNamesAreShown =
    (ss : List Submission) (number : ℕ) (s : Submission) (to : ℕ) (t : Submission) (name : List ℕ)
    → IsOuterName ss number s to t name → IsShownByTop ss number s to t name

-- The last node of a submission has the size of the submission's content, and meets the limits.
pub record IsShownByLast (ss : List Submission) (number : ℕ) (top : Node) : Type 0 where
  pub size : IsSizeOf (flat ss number) (height ss number) top.size
  pub few : length (flat ss number) ≤ 2 ^ 40
  pub low : height ss number ≤ 64

abbrev pub LastNodesAreTops : Type 0
LastNodesAreTops =
    (ss : List Submission) (number : ℕ) (nodes : List Node) (top : Node) → AreNodes ss number nodes
    → slice_get nodes (length nodes - 1) ≡ Some top → IsShownByLast ss number top

-- ---- lists of any kind

-- What a structure of the submission with a number lists: its own entries, and then what its references make of their targets' lists, in
-- file order.
abbrev pub listed : {W : Type 0} → (ℕ → Structure → List W) → (Reference → List W → List W) → ℕ
    → Structure → (List ℕ → List W) → List W
listed own placed number s below =
    own number s ++ flat_map (λ (r : Reference). placed r (below r.name)) (references s.elements)

-- What a name lists for a submission after others with these lists; and what the top lists.
abbrev pub name_list : {W : Type 0} → (ℕ → Structure → List W) → (Reference → List W → List W)
    → List (List W) → Submission → List ℕ → List W
name_list own placed before s name =
    by_levels (listed own placed (length before)) []
    (λ outside. at_number [] before (bound_number s.bound outside)) (levels_of s.library)
    s.library name

abbrev pub top_list : {W : Type 0} → (ℕ → Structure → List W) → (Reference → List W → List W)
    → List (List W) → Submission → List W
top_list own placed before s = name_list own placed before s s.top

-- The lists of the submissions, each after those before it.
abbrev pub lists : {W : Type 0} → (ℕ → Structure → List W) → (Reference → List W → List W)
    → List Submission → List (List W)
lists own placed ss = from_first (top_list own placed) [] ss

-- What a name, and the top, list for the submission with a number on a shelf.
abbrev pub name_list_at : {W : Type 0} → (ℕ → Structure → List W) → (Reference → List W → List W)
    → List Submission → ℕ → Submission → List ℕ → List W
name_list_at own placed ss number s name =
    name_list own placed (lists own placed (take number ss)) s name

abbrev pub top_list_at : {W : Type 0} → (ℕ → Structure → List W) → (Reference → List W → List W)
    → List Submission → ℕ → Submission → List W
top_list_at own placed ss number s = name_list_at own placed ss number s s.top

-- A name of the library lists what its structure makes from the names to which that refers.
abbrev pub OwnNamesAreListed : {W : Type 0} → (ℕ → Structure → List W)
    → (Reference → List W → List W) → Type 0
OwnNamesAreListed own placed =
    (ss : List Submission) (number : ℕ) (s : Submission) (structure : Structure) (node : Node)
    (name : List ℕ)
    → IsOwnName ss number s structure node name
    → name_list_at own placed ss number s name ≡ listed own placed number structure
    (name_list_at own placed ss number s)

-- A name outside the library lists what the top of its submission listed when that came.
abbrev pub OuterNamesAreListed : {W : Type 0} → (ℕ → Structure → List W)
    → (Reference → List W → List W) → Type 0
OuterNamesAreListed own placed =
    (ss : List Submission) (number : ℕ) (s : Submission) (to : ℕ) (t : Submission) (name : List ℕ)
    → IsOuterName ss number s to t name
    → name_list_at own placed ss number s name ≡ top_list_at own placed ss to t

-- The submission with a number lists what its top lists after those before it.
abbrev pub TopsAreListed : {W : Type 0} → (ℕ → Structure → List W) → (Reference → List W → List W)
    → Type 0
TopsAreListed own placed =
    (ss : List Submission) (number : ℕ) (s : Submission) → slice_get ss number ≡ Some s
    → slice_index_or (lists own placed ss) number [] ≡ top_list_at own placed ss number s
