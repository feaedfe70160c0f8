-- What the nodes of a submission say about its limits.
use Rattle.std.proofs.Common.{◌≡◌, ℕ, ◌-◌, ◌<◌, ◌≤◌, ◌^◌, true, false, List, length, get_or, Some, Result, Ok, Err, refl, sym, ap, subst, ◌∙◌, arith}
use Rattle.std.specs.Prelude.{slice_get, nat_lt, IfSome}
use Rattle.std.specs.Result.{IfErr, IsErrAnd}
use Rattle.std.proofs.lemmas.Bool.{lt-ltb, le-ltb, ltb-false}
use Rattle.std.proofs.lemmas.Option.{slice_get-get_or}
use Rattle.mpw_structures.specs.Library.{IsLibrary}
use Rattle.mpw_structures.specs.Places.{place_of}
use Rattle.mpw_hier.specs.declared.fault.HierFault.{HierFault}
use Rattle.mpw_hier.specs.declared.fault.HierFault.TheVariants as faults
use Rattle.mpw_hier.specs.declared.node.Node.{Node}
use Rattle.mpw_hier.specs.declared.size.Size.{Size}
use Rattle.mpw_hier.specs.declared.submission.Submission.{Submission}
use Rattle.mpw_hier.specs.Boxes.{extent_of, is_box_near}
use Rattle.mpw_hier.specs.Internal.Building.{IsHierarchy}
use Rattle.mpw_hier.specs.Limits.{IsFar, IsRefused, KeepsLimits, is_too_large, is_too_deep, has_room_for}
use Rattle.mpw_hier.specs.Internal.Limits.{IsOfNodes}
use Rattle.mpw_hier.specs.Nodes.{AreNodesOf, structure_levels}
use Rattle.mpw_hier.specs.Sizes.{IsSizeOf}
use Rattle.mpw_hier.specs.Values.{structure_items, flat_of, flats, height_of, heights}
use Rattle.mpw_hier.proofs.Told.{told_limit}
use Rattle.mpw_hier.proofs.Tops.{same_place}

module _ (ss : List Submission) (s : Submission) (nodes : List Node)
    (w : IsHierarchy ss s nodes) where
  -- the size of the last node is that of the submission
  last_size : (top : Node) → slice_get nodes (length nodes - 1) ≡ Some top
      → IsSizeOf (flat_of (flats ss) s) (height_of (heights ss) s) top.size
  last_size top is =
      let both : Some w.top ≡ Some top = sym w.last ∙ is in
      let same : w.top ≡ top = cc in
      let here = w.each (length nodes - 1) top is in
      let named : place_of s.library s.top ≡ Some top.structure = w.top_named
      ∙ ap (λ (n : Node). Some n.structure) same in
      subst (λ name. IsSizeOf (structure_items (flats ss) s name)
      (structure_levels (heights ss) s name) top.size)
      (same_place s.library here.structure.name s.top top.structure here.named named) here.size

  pub not_far : IsFar ss s → ⊥
  not_far h =
      let r = w.whole h.structure h.place h.below h.inside in
      let here = w.each r.0 r.1 r.2 in
      let named : place_of s.library here.structure.name ≡ Some h.place = here.named
      ∙ ap (λ p. Some p) r.3 in
      let same = same_place s.library here.structure.name h.structure h.place named h.inside in
      let extent = here.size.extent ∙ ap (λ name. extent_of (structure_items (flats ss) s name))
      same ∙ h.extent in
      let near : is_box_near h.box ≡ true = subst (λ o. IfSome o (λ box. is_box_near box ≡ true))
      extent here.size.near in
      absurd (let q = sym near ∙ h.far in cc)

  pub nodes_kept : (most : ℕ) → most ≤ 2 ^ 40 → IsLibrary s.library → is_too_large most ss s ≡ false
      → is_too_deep ss s ≡ false → AreNodesOf (flats ss) (heights ss) s nodes
  nodes_kept most greatest library small low = record {
    library = library;
    each = w.each;
    reached = w.reached;
    whole = w.whole;
    few = w.few;
    top = w.top;
    some = w.some;
    last = w.last;
    top_named = w.top_named;
    count = omega (arith, greatest, ltb-false most (length (flat_of (flats ss) s)) small);
    height = ltb-false 64 (height_of (heights ss) s) low;
  }

-- ---- limits by the size

-- What the size of the last node says about the limits.
pub record IsMeasured (most : ℕ) (ss : List Submission) (s : Submission) (size : Size) :
    Type 0 where
  pub near : IsFar ss s → ⊥
  pub shapes : is_too_large most ss s ≡ nat_lt most size.count
  pub levels : is_too_deep ss s ≡ nat_lt 64 size.height

pub measured : (most : ℕ) → most ≤ 2 ^ 40
    → (ss : List Submission) (s : Submission) (nodes : List Node) (other : Node)
    → IsHierarchy ss s nodes → IsMeasured most ss s (get_or nodes (length nodes - 1) other).size
measured most greatest ss s nodes other w =
    let top = get_or nodes (length nodes - 1) other in
    let within : length nodes - 1 < length nodes = omega (arith, w.some) in
    let last = slice_get-get_or nodes (length nodes - 1) other within in
    let told = last_size ss s nodes w top last in record {
      near = not_far ss s nodes w;
      shapes = told_limit (2 ^ 40) most top.size.count (length (flat_of (flats ss) s)) greatest
          told.count;
      levels = told_limit 64 64 top.size.height (height_of (heights ss) s) (omega arith)
          told.height;
    }

module _ {most : ℕ} {ss : List Submission} {s : Submission} {size : Size}
    (m : IsMeasured most ss s size) where
  pub large : most < size.count → is_too_large most ss s ≡ true
  large lt = m.shapes ∙ lt-ltb most size.count lt

  pub small : size.count ≤ most → is_too_large most ss s ≡ false
  small le = m.shapes ∙ le-ltb most size.count le

  pub deep : 64 < size.height → is_too_deep ss s ≡ true
  deep lt = m.levels ∙ lt-ltb 64 size.height lt

  pub low : size.height ≤ 64 → is_too_deep ss s ≡ false
  low le = m.levels ∙ le-ltb 64 size.height le

  pub kept : size.count ≤ most → size.height ≤ 64 → has_room_for ss s.cell ≡ true
      → KeepsLimits most ss s
  kept few flat room = record { near = m.near; small = small few; low = low flat; room = room }

-- what meets a lesser limit on shapes meets a greater one
pub kept_within : (less most : ℕ) (ss : List Submission) (s : Submission) → less ≤ most
    → KeepsLimits less ss s → KeepsLimits most ss s
kept_within less most ss s le k =
    let few = ltb-false less (length (flat_of (flats ss) s)) k.small in record {
      near = k.near;
      small = le-ltb most (length (flat_of (flats ss) s)) (omega (arith, le, few));
      low = k.low;
      room = k.room;
    }

-- ---- the version doesn't matter for the limits

far_of : (ss : List Submission) (s : Submission) (version : ℕ) → IsFar ss s
    → IsFar ss (record s { version = version })
far_of ss s version h = record {
  structure = h.structure;
  place = h.place;
  inside = h.inside;
  below = h.below;
  box = h.box;
  extent = h.extent;
  far = h.far;
}

pub kept_as : (most : ℕ) (ss : List Submission) (s : Submission) (version : ℕ)
    → KeepsLimits most ss (record s { version = version }) → KeepsLimits most ss s
kept_as most ss s version k = record {
  near = λ far. k.near (far_of ss s version far);
  small = k.small;
  low = k.low;
  room = k.room;
}

pub refused_as : (most : ℕ) (ss : List Submission) (s : Submission) (version : ℕ) (fault : HierFault)
    → IsRefused most ss (record s { version = version }) fault → IsRefused most ss s fault
refused_as most ss s version faults.Memory h = tt
refused_as most ss s version faults.Extent h = far_of ss (record s { version = version }) s.version h
refused_as most ss s version faults.Shapes h = (λ far. h.0 (far_of ss s version far), h.1)
refused_as most ss s version faults.Deep h = (λ far. h.0 (far_of ss s version far), h.1)
refused_as most ss s version faults.Full h = (λ far. h.0 (far_of ss s version far), h.1)
refused_as most ss s version faults.NoTop h = absurd h
refused_as most ss s version faults.Cycle h = absurd h
refused_as most ss s version faults.NoCell h = absurd h

-- ---- faults

-- what making the nodes refuses
pub refused_nodes : (most : ℕ) (ss : List Submission) (s : Submission) (fault : HierFault)
    → IsOfNodes fault → (fault ≡ faults.Extent → IsFar ss s) → IsRefused most ss s fault
refused_nodes most ss s faults.Memory of far = tt
refused_nodes most ss s faults.Extent of far = far refl
refused_nodes most ss s faults.NoTop of far = absurd of
refused_nodes most ss s faults.Cycle of far = absurd of
refused_nodes most ss s faults.NoCell of far = absurd of
refused_nodes most ss s faults.Shapes of far = absurd of
refused_nodes most ss s faults.Deep of far = absurd of
refused_nodes most ss s faults.Full of far = absurd of

pub refused : (A : Type 0) (most : ℕ) (ss : List Submission) (s : Submission)
    (result : Result A HierFault) (fault : HierFault) → IsErrAnd result (λ e. e ≡ fault)
    → IsRefused most ss s fault → IfErr result (IsRefused most ss s)
refused A most ss s (Ok n) fault h is = absurd h
refused A most ss s (Err e) fault h is = subst (IsRefused most ss s) (sym h) is
