-- The nodes of a submission, and the content of its top.
use Rattle.std.proofs.Common.{◌≡◌, ℕ, zero, suc, ◌-◌, ◌<◌, ◌≤◌, ◌^◌, inl, inr, true, List, [], length, take, Some, None, sym, ap, subst, ◌∙◌, arith}
use Rattle.std.specs.Prelude.{slice_get}
use Rattle.std.proofs.lemmas.Option.{slice_get_within, slice_get-get_or, get_or_from_slice_get, slice_get_cases}
use Rattle.std.proofs.lemmas.List.{get_or-take, get_or_past, length-take}
use Rattle.mpw_geom.specs.Names.{contains_name}
use Rattle.mpw_structures.specs.declared.structures.Structure.{Structure}
use Rattle.mpw_structures.specs.Places.{place_of}
use Rattle.mpw_hier.specs.declared.node.Node.{Node}
use Rattle.mpw_hier.specs.declared.node.Target.{Target}
use Rattle.mpw_hier.specs.declared.node.Target.TheVariants as targets
use Rattle.mpw_hier.specs.declared.submission.Submission.{Submission}
use Rattle.mpw_hier.specs.Structures.{structure_of, structure_at, referenced_names}
use Rattle.mpw_hier.specs.Items.{Item}
use Rattle.mpw_hier.specs.Sizes.{IsSizeOf}
use Rattle.mpw_hier.specs.Nodes.{IsTarget, IsNode, AreNodesOf, AreNodes, structure_levels}
use Rattle.mpw_hier.specs.Values.{from_first, structure_items, flat_of, flats, flat, height_of, heights, height}
use Rattle.mpw_hier.proofs.Linking.{found_at}
use Rattle.mpw_hier.proofs.Unfolding.{IsLow, outside, own, low_upto}
use Rattle.mpw_hier.proofs.Firsts.{firsts_at, firsts_length}

-- the entries at the front of a list
pub front_get : {X : Type 0} (n : ℕ) (xs : List X) (k : ℕ) (x : X)
    → slice_get (take n xs) k ≡ Some x → (k < n) × (slice_get xs k ≡ Some x)
front_get n xs k x is =
    let within = slice_get_within (take n xs) k x is in
    let lt : k < n = omega (arith, within, length-take n xs) in
    let here : k < length xs = omega (arith, within, length-take n xs) in (
      lt,
      slice_get-get_or xs k x here ∙ ap (λ y. Some y) (sym (get_or-take n xs k x lt)
          ∙ get_or_from_slice_get (take n xs) k x x is),
    )

pub named_at : (ss : List Structure) (name : List ℕ) (i : ℕ) (s : Structure)
    → place_of ss name ≡ Some i → slice_get ss i ≡ Some s → structure_of ss name ≡ Some s
named_at ss name i s e is = ap (structure_at ss) e ∙ is

one_structure : {a b : Structure} → Some a ≡ Some b → a ≡ b
one_structure e = cc

-- two names with one place are equal
pub same_place : (ss : List Structure) (a b : List ℕ) (i : ℕ) → place_of ss a ≡ Some i
    → place_of ss b ≡ Some i → a ≡ b
same_place ss a b i e h =
    let f = found_at ss a i e in
    let g = found_at ss b i h in
    sym f.2 ∙ ap (λ (s : Structure). s.name) (one_structure (sym f.1 ∙ g.1)) ∙ g.2

module _ (before : List (List Item)) (levels : List ℕ) (s : Submission) (nodes : List Node)
    (each : (k : ℕ) (node : Node) → slice_get nodes k ≡ Some node
    → IsNode before levels s (take k nodes) node) where
  -- below a node there are at most as many levels as nodes before it
  pub low_below : (most k : ℕ) → k < most
      → (node : Node) (is : slice_get nodes k ≡ Some node) (target : List ℕ)
      → contains_name (referenced_names (each k node is).structure.elements) target ≡ true
      → IsLow s.library k target
  low_below zero k lt node is target c = absurd (omega (arith, lt))
  low_below (suc most) k lt node is target c =
      go (λ j e o less next d. low_below most j less e o next d) ((each k node is).below target c)
    where
      go : ((j : ℕ) (e : Node) (o : slice_get nodes j ≡ Some e) → j < most → (next : List ℕ)
          → contains_name (referenced_names (each j e o).structure.elements) next ≡ true
          → IsLow s.library j next) → (t : Target) × IsTarget s (length before) (take k nodes)
          target t → IsLow s.library k target
      go more (targets.Outer number, h) = outside (ap (structure_at s.library) h.outside)
      go more (targets.Own j, h) =
          let at = front_get k nodes j h.node h.is in
          let below = each j h.node at.1 in
          let less : j < most = omega (arith, at.0, lt) in
          let enough : suc j ≤ k = omega (arith, at.0) in
          low_upto (own below.structure (named_at s.library target h.node.structure below.structure
          h.named below.is) (λ next d. more j h.node at.1 less next d)) k enough

-- the size of the last node is that of the submission
pub top_size : (before : List (List Item)) (levels : List ℕ) (s : Submission) (nodes : List Node)
    → AreNodesOf before levels s nodes → (top : Node)
    → slice_get nodes (length nodes - 1) ≡ Some top
    → IsSizeOf (flat_of before s) (height_of levels s) top.size
top_size before levels s nodes w top is =
    let both : Some w.top ≡ Some top = sym w.last ∙ is in
    let same : w.top ≡ top = cc in
    let here = w.each (length nodes - 1) top is in
    let named : place_of s.library s.top ≡ Some top.structure = w.top_named
    ∙ ap (λ (n : Node). Some n.structure) same in
    subst (λ name. IsSizeOf (structure_items before s name) (structure_levels levels s name)
    top.size) (same_place s.library here.structure.name s.top top.structure here.named named)
    here.size

pub shelf_size : (ss : List Submission) (number : ℕ) (nodes : List Node) → AreNodes ss number nodes
    → (top : Node) → slice_get nodes (length nodes - 1) ≡ Some top
    → IsSizeOf (flat ss number) (height ss number) top.size
    × ((length (flat ss number) ≤ 2 ^ 40) × (height ss number ≤ 64))
unfolding flats heights
shelf_size ss number nodes w top is =
    let s = w.submission in
    let items : flat ss number ≡ flat_of (flats (take number ss)) s = firsts_at flat_of ss number s
    [] w.is in
    let levels : height ss number ≡ height_of (heights (take number ss)) s =
    firsts_at height_of ss number s 0 w.is in
    let t = top_size (flats (take number ss)) (heights (take number ss)) s nodes w.shown top is in
    rw (items, levels) (t, (w.shown.count, w.shown.height))

-- ---- numbers that no submission has

missing : {X : Type 0} (xs : List X) (i : ℕ) → slice_get xs i ≡ None → length xs ≤ i
missing xs i none = elim (slice_get_cases xs i).1 [
  | inl h ↦ absurd (let q = sym none ∙ h.2 in cc)
  | inr h ↦ h.0
]

pub no_items : (ss : List Submission) (number : ℕ) → slice_get ss number ≡ None
    → flat ss number ≡ []
unfolding flats
no_items ss number none =
    let past = missing ss number none in
    get_or_past (from_first flat_of [] ss) number []
    (omega (arith, firsts_length flat_of [] ss, past))

pub no_levels : (ss : List Submission) (number : ℕ) → slice_get ss number ≡ None
    → height ss number ≡ 0
unfolding heights
no_levels ss number none =
    let past = missing ss number none in
    get_or_past (from_first height_of [] ss) number 0
    (omega (arith, firsts_length height_of [] ss, past))
