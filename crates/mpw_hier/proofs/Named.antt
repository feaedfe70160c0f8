-- The contents of names, for a submission on a shelf.
use Rattle.std.proofs.Common.{◌≡◌, ℕ, suc, ◌<◌, ◌≤◌, true, List, [], ◌++◌, length, take, Some, sym, ap, subst, ◌∙◌, arith}
use Rattle.std.specs.Prelude.{slice_get}
use Rattle.std.proofs.lemmas.Option.{slice_get_within}
use Rattle.std.proofs.lemmas.List.{length-take}
use Rattle.mpw_geom.specs.Names.{contains_name}
use Rattle.mpw_structures.specs.declared.element.Reference.{Reference}
use Rattle.mpw_structures.specs.declared.structures.Structure.{Structure}
use Rattle.mpw_hier.specs.declared.node.Node.{Node}
use Rattle.mpw_hier.specs.declared.submission.Submission.{Submission}
use Rattle.mpw_hier.specs.Structures.{structure_at, referenced_names}
use Rattle.mpw_hier.specs.Levels.{by_levels, levels_of}
use Rattle.mpw_hier.specs.Items.{shown_items}
use Rattle.mpw_hier.specs.Nodes.{structure_levels}
use Rattle.mpw_hier.specs.Sizes.{IsSizeOf}
use Rattle.mpw_hier.specs.Values.{from_first, bound_number, at_number, structure_items, flat_of, flats, shown_height, height_of, heights}
use Rattle.mpw_hier.specs.Named.{IsOwnName, IsOuterName, OwnNamesAreShown, OuterNamesAreShown, LastNodesAreTops, listed, top_list, OwnNamesAreListed, OuterNamesAreListed, TopsAreListed}
use Rattle.mpw_hier.proofs.Unfolding.{IsByTargets, IsLow, unfolds, unfolds_outside, references_by_targets, items_by_targets, heights_by_targets}
use Rattle.mpw_hier.proofs.Firsts.{firsts_at, firsts_earlier, firsts_length}
use Rattle.mpw_hier.proofs.Tops.{named_at, low_below, same_place, shelf_size}

one_structure : {a b : Structure} → Some a ≡ Some b → a ≡ b
one_structure e = cc

-- ---- the contents of submissions in their order, of any kind

module _ {V : Type 0} (shown : ℕ → Structure → (List ℕ → V) → V) (nothing : V) (by_targets : (n : ℕ)
    → IsByTargets (shown n)) where
  abbrev pub named : List V → Submission → List ℕ → V
  named before s name = by_levels (shown (length before)) nothing
      (λ outside. at_number nothing before (bound_number s.bound outside)) (levels_of s.library)
      s.library name

  abbrev pub of_top : List V → Submission → V
  of_top before s = named before s s.top

  before_length : (ss : List Submission) (n : ℕ) (s : Submission) → slice_get ss n ≡ Some s
      → length (from_first of_top [] (take n ss)) ≡ n
  before_length ss n s is =
      omega (
        arith,
        firsts_length of_top [] (take n ss),
        length-take n ss,
        slice_get_within ss n s is,
      )

  -- a structure of its own
  pub own_shown : (ss : List Submission) (n : ℕ) (s : Submission) (structure : Structure)
      (node : Node) (name : List ℕ) → IsOwnName ss n s structure node name
      → named (from_first of_top [] (take n ss)) s name ≡ shown n structure
      (named (from_first of_top [] (take n ss)) s)
  own_shown ss n s structure node name w =
      let before = from_first of_top [] (take n ss) in
      let m = w.nodes_are.each w.place node w.at in
      let same = one_structure (sym m.is ∙ w.structure_is) in
      let low = low_below (flats (take n ss)) (heights (take n ss)) s w.nodes w.nodes_are.each
      (suc w.place) w.place (omega arith) node w.at in
      let down : (target : List ℕ) → contains_name (referenced_names structure.elements) target
      ≡ true → IsLow s.library w.place target =
      λ target c. low target (subst (λ (x : Structure).
      contains_name (referenced_names x.elements) target ≡ true) (sym same) c) in
      let few : suc w.place ≤ length s.library =
      omega (arith, slice_get_within w.nodes w.place node w.at, w.nodes_are.few) in
      let u = unfolds (shown (length before)) nothing
      (λ outside. at_number nothing before (bound_number s.bound outside)) s.library
      (by_targets (length before)) w.place name structure
      (named_at s.library name node.structure structure w.named w.structure_is) down few in
      u ∙ ap (λ m. shown m structure (named before s)) (before_length ss n s w.is)

  -- an earlier submission
  pub outer_shown : (ss : List Submission) (n : ℕ) (s : Submission) (m : ℕ) (t : Submission)
      (name : List ℕ) → IsOuterName ss n s m t name
      → named (from_first of_top [] (take n ss)) s name ≡ named (from_first of_top [] (take m ss)) t
      t.top
  outer_shown ss n s m t name w =
      let before = from_first of_top [] (take n ss) in
      let within : n < length ss = slice_get_within ss n s w.is in
      let le : n ≤ length ss = omega (arith, within) in
      let told : List ℕ → V = λ outside. at_number nothing before (bound_number s.bound outside) in
      let missing = ap (structure_at s.library) w.outside in
      unfolds_outside (shown (length before)) nothing told s.library (by_targets (length before))
      name missing ∙ ap (at_number nothing before) w.bound
      ∙ firsts_earlier of_top ss n m nothing w.earlier le
      ∙ firsts_at of_top ss m t nothing w.to_is

-- ---- flat lists and heights

own_items : (ss : List Submission) (n : ℕ) (s : Submission) (structure : Structure) (node : Node)
    (name : List ℕ) → IsOwnName ss n s structure node name
    → structure_items (flats (take n ss)) s name ≡ shown_items n structure
    (structure_items (flats (take n ss)) s)
unfolding flats
own_items ss n s structure node name w =
    own_shown shown_items [] items_by_targets ss n s structure node name w

own_levels : (ss : List Submission) (n : ℕ) (s : Submission) (structure : Structure) (node : Node)
    (name : List ℕ) → IsOwnName ss n s structure node name
    → structure_levels (heights (take n ss)) s name ≡ shown_height structure
    (structure_levels (heights (take n ss)) s)
unfolding heights
own_levels ss n s structure node name w =
    own_shown (λ _. shown_height) 0 (λ _. heights_by_targets) ss n s structure node name w

pub own_names : OwnNamesAreShown
own_names ss n s structure node name w =
    let before = flats (take n ss) in
    let levels = heights (take n ss) in
    let m = w.nodes_are.each w.place node w.at in record {
      items = own_items ss n s structure node name w;
      levels = own_levels ss n s structure node name w;
      size = subst (λ (other : List ℕ). IsSizeOf (structure_items before s other)
          (structure_levels levels s other) node.size)
          (same_place s.library m.structure.name name node.structure m.named w.named) m.size;
    }

outer_items : (ss : List Submission) (n : ℕ) (s : Submission) (m : ℕ) (t : Submission)
    (name : List ℕ) → IsOuterName ss n s m t name
    → structure_items (flats (take n ss)) s name ≡ flat_of (flats (take m ss)) t
unfolding flats
outer_items ss n s m t name w = outer_shown shown_items [] items_by_targets ss n s m t name w

outer_levels : (ss : List Submission) (n : ℕ) (s : Submission) (m : ℕ) (t : Submission)
    (name : List ℕ) → IsOuterName ss n s m t name → structure_levels (heights (take n ss)) s name
    ≡ height_of (heights (take m ss)) t
unfolding heights
outer_levels ss n s m t name w =
    outer_shown (λ _. shown_height) 0 (λ _. heights_by_targets) ss n s m t name w

pub outer_names : OuterNamesAreShown
outer_names ss n s m t name w =
    record { items = outer_items ss n s m t name w; levels = outer_levels ss n s m t name w }

pub last_nodes : LastNodesAreTops
last_nodes ss n nodes top w is =
    let h = shelf_size ss n nodes w top is in record { size = h.0; few = h.1.0; low = h.1.1 }

pub many_lists : (ss : List Submission) → length (flats ss) ≡ length ss
unfolding flats
many_lists ss = omega (arith, firsts_length flat_of [] ss)

-- ---- lists of any kind

module _ {W : Type 0} (own : ℕ → Structure → List W) (placed : Reference → List W → List W) where
  listed_by_targets : (n : ℕ) → IsByTargets (listed own placed n)
  listed_by_targets n s f g same = ap (λ rest. own n s ++ rest)
      (references_by_targets placed s.elements f g same)

  pub own_lists : OwnNamesAreListed own placed
  own_lists ss n s structure node name w = own_shown (listed own placed) [] listed_by_targets ss n s
      structure node name w

  pub outer_lists : OuterNamesAreListed own placed
  outer_lists ss n s m t name w = outer_shown (listed own placed) [] listed_by_targets ss n s m t
      name w

  pub top_lists : TopsAreListed own placed
  top_lists ss n s is = firsts_at (top_list own placed) ss n s [] is
