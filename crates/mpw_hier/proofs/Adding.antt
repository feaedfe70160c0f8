-- Adding one more node, after those of all structures that it places.
use Rattle.std.proofs.Common.{◌≡◌, ℕ, zero, suc, ◌<◌, inl, inr, List, [], ◌∷◌, ◌++◌, length, get_or, set, take, replicate, All, Option, Some, None, refl, sym, ap, subst, ◌∙◌, arith, length-set, get_or-set_other}
use Rattle.std.specs.Prelude.{slice_get}
use Rattle.std.specs.List.{AllZip}
use Rattle.std.specs.BTreeMap.{BTreeMap}
use Rattle.std.proofs.lemmas.Option.{slice_get_within, slice_get-get_or, slice_get_read, get_or_from_slice_get}
use Rattle.std.proofs.lemmas.List.{length-append, length-map, take-append-le}
use Rattle.std.proofs.lemmas.Bool.Decides.{eqb_tells}
use Rattle.std.proofs.lemmas.Grind.{get_or-set_at}
use Rattle.std.proofs.Math.Seq.{take-append_seam, get_or-append_seam}
use Rattle.mpw_structures.specs.declared.element.Element.{Element}
use Rattle.mpw_structures.specs.Element.{IsElement}
use Rattle.mpw_structures.specs.declared.structures.Structure.{Structure}
use Rattle.mpw_structures.specs.Library.{IsLibrary}
use Rattle.mpw_structures.specs.Places.{place_of}
use Rattle.mpw_hier.specs.declared.node.Node.{Node}
use Rattle.mpw_hier.specs.declared.node.Target.{Target}
use Rattle.mpw_hier.specs.declared.node.Target.TheVariants as targets
use Rattle.mpw_hier.specs.declared.size.Size.{Size}
use Rattle.mpw_hier.specs.declared.submission.Submission.{Submission}
use Rattle.mpw_hier.specs.Structures.{referenced_names, references, structure_at}
use Rattle.mpw_hier.specs.Boxes.{extent_of}
use Rattle.mpw_hier.specs.Items.{shown_items}
use Rattle.mpw_hier.specs.Nodes.{IsTarget, IsNode, AreChildren, shape_places, structure_levels}
use Rattle.mpw_hier.specs.Sizes.{IsExtentNear, IsSizeOf}
use Rattle.mpw_hier.specs.Internal.Sizes.{IsExtentFar}
use Rattle.mpw_hier.specs.Internal.Building.{IsPlace, number_at, IsSizeHere, AreLinked, IsKnown, own, outer, AreKnown, AreSizesHere, IsFarHere}
use Rattle.mpw_hier.specs.Values.{structure_items, flats, heights, shown_height}
use Rattle.mpw_hier.proofs.Unfolding.{IsLow, outside, low_upto, unfolds, items_by_targets, heights_by_targets}
use Rattle.mpw_hier.proofs.Unfolding as low
use Rattle.mpw_hier.proofs.Tops.{named_at, low_below}
use Rattle.mpw_hier.proofs.Shelving.{more_get, get_more}
use Rattle.mpw_hier.proofs.Linked.{own_node}
use Rattle.mpw_hier.proofs.Parts.{flats_length}

-- ---- lists

pub elements_of : (library : List Structure) (place : ℕ) (s : Structure) → IsLibrary library
    → slice_get library place ≡ Some s → All IsElement s.elements
elements_of library place s w is =
    subst (λ (t : Structure). All IsElement t.elements) (get_or_from_slice_get library place s s is)
    (w place s (slice_get_within library place s is)).elements

zip_length : {X Y : Type 0} (R : X → Y → Type 0) (xs : List X) (ys : List Y) → AllZip R xs ys
    → length ys ≡ length xs
zip_length R [] [] h = refl
zip_length R [] (y ∷ ys) h = absurd h
zip_length R (x ∷ xs) [] h = absurd h
zip_length R (x ∷ xs) (y ∷ ys) h = ap (λ n. suc n) (zip_length R xs ys h.1)

zip_right : {X Y : Type 0} (R : X → Y → Type 0) (P : Y → Type 0) → ((x : X) (y : Y) → R x y → P y)
    → (xs : List X) (ys : List Y) → AllZip R xs ys → All P ys
zip_right R P f [] [] h k d lt = absurd (omega (arith, lt))
zip_right R P f [] (y ∷ ys) h k d lt = absurd h
zip_right R P f (x ∷ xs) [] h k d lt = absurd h
zip_right R P f (x ∷ xs) (y ∷ ys) h zero d lt = f x y h.0
zip_right R P f (x ∷ xs) (y ∷ ys) h (suc k) d lt = zip_right R P f xs ys h.1 k d (omega (arith, lt))

pub sizes_each : (ss : List Submission) (s : Submission) (es : List Element) (sizes : List Size)
    → AreSizesHere ss s es sizes → length sizes ≡ length (references es)
sizes_each ss s es sizes h = zip_length (IsSizeHere ss s) (referenced_names es) sizes h
    ∙ length-map (references es) (λ r. r.name)

pub sizes_near : (ss : List Submission) (s : Submission) (es : List Element) (sizes : List Size)
    → AreSizesHere ss s es sizes → All (λ size. IsExtentNear size.extent) sizes
sizes_near ss s es sizes h = zip_right (IsSizeHere ss s) (λ size. IsExtentNear size.extent)
    (λ name size w. w.near) (referenced_names es) sizes h

pub last_get : {X : Type 0} (xs : List X) (x : X) → slice_get (xs ++ x ∷ []) (length xs) ≡ Some x
last_get xs x =
    let here : length xs < length (xs ++ x ∷ []) = omega (arith, length-append xs (x ∷ [])) in
    slice_get-get_or (xs ++ x ∷ []) (length xs) x here
    ∙ ap (λ y. Some y) (get_or-append_seam xs x [] x)

-- the structure at an index of a library, as the code has read it
pub record StandsAt (library : List Structure) (place : ℕ) (structure : Structure) : Type 0 where
  pub is : slice_get library place ≡ Some structure
  pub named : place_of library structure.name ≡ Some place

pub stands : {library read : List Structure} {place : ℕ} {t : Structure} → IsPlace library place
    → read ≡ library → t ≡ get_or read place t → StandsAt library place t
stands {library = library} {place = place} {t = t} p same at =
    let is = slice_get_read library (length library) place t refl
    (slice_get_within library place p.structure p.is)
    (subst (λ (xs : List Structure). t ≡ get_or xs place t) same at) in
    let both : Some p.structure ≡ Some t = sym p.is ∙ is in
    let one : p.structure ≡ t = cc in record {
      is = is;
      named = subst (λ (x : Structure). place_of library x.name ≡ Some place) one p.named;
    }

-- the sizes that were returned for the elements
pub told_sizes : (ss : List Submission) (s : Submission) {es read : List Element}
    {below sizes : List Size} → read ≡ es → sizes ≡ below → AreSizesHere ss s read below
    → AreSizesHere ss s es sizes
told_sizes ss s {es = es} {below = below} same given h =
    subst (λ sizes. AreSizesHere ss s es sizes) (sym given)
    (subst (λ (es : List Element). AreSizesHere ss s es below) same h)

-- no structure has a node
pub none_known : (n place k : ℕ) → number_at (replicate n None) place ≡ Some k → ⊥
none_known zero place k e = absurd cc
none_known (suc n) zero k e = absurd cc
none_known (suc n) (suc place) k e = none_known n place k e

-- ---- a structure whose targets are known

module _ {ss : List Submission} {s : Submission} {table : BTreeMap (List ℕ) ℕ}
    {numbers : List (Option ℕ)} {nodes : List Node} (w : AreLinked ss s table numbers nodes) where
  known_low : (name : List ℕ) → IsKnown ss s numbers name → IsLow s.library (length nodes) name
  known_low name (outer n h) = outside (ap (structure_at s.library) h.outside)
  known_low name (own h) =
      let r = w.numbered h.place h.number h.at in
      let here = w.each h.number r.0 r.1 in
      let within = slice_get_within nodes h.number r.0 r.1 in
      let named = h.named ∙ ap (λ p. Some p) (sym r.2) in
      low_upto (low.own here.structure (named_at s.library name r.0.structure here.structure named
      here.is) (low_below (flats ss) (heights ss) s nodes w.each (suc h.number) h.number
      (omega arith) r.0 r.1)) (length nodes) (omega (arith, within))

  known_target : (name : List ℕ) → IsKnown ss s numbers name
      → (target : Target) × IsTarget s (length (flats ss)) nodes name target
  known_target name (outer n h) = (
    targets.Outer n,
    record {
      outside = h.outside;
      bound = h.bound;
      earlier = omega (arith, h.earlier, flats_length ss);
    },
  )
  known_target name (own h) = (
    targets.Own h.number,
    own_node ss s table numbers nodes w name
        h.place h.number h.named h.at,
  )

  module _ {place : ℕ} {structure : Structure} (here : StandsAt s.library place structure)
      (known : AreKnown ss s numbers structure.elements)
      (few : length nodes < length s.library) where
    pub added_items : structure_items (flats ss) s structure.name ≡ shown_items (length (flats ss))
        structure (structure_items (flats ss) s)
    added_items = unfolds (shown_items (length (flats ss))) [] _ s.library
        (items_by_targets (length (flats ss))) (length nodes) structure.name structure
        (named_at s.library structure.name place structure here.named here.is)
        (λ name c. known_low name (known name c)) (omega (arith, few))

    pub added_levels : structure_levels (heights ss) s structure.name ≡ shown_height structure
        (structure_levels (heights ss) s)
    added_levels = unfolds shown_height 0 _ s.library heights_by_targets (length nodes)
        structure.name structure (named_at s.library structure.name place structure here.named here.is)
        (λ name c. known_low name (known name c)) (omega (arith, few))

    pub added_size : (size : Size) → IsSizeOf
        (shown_items (length (flats ss)) structure (structure_items (flats ss) s))
        (shown_height structure (structure_levels (heights ss) s)) size
        → IsSizeHere ss s structure.name size
    added_size size h = rw (added_items, added_levels) h

    pub added_far : IsExtentFar (extent_of
        (shown_items (length (flats ss)) structure (structure_items (flats ss) s)))
        → IsFarHere ss s place
    added_far h = record {
      structure = structure;
      is = here.is;
      box = h.box;
      extent = ap extent_of added_items ∙ h.is;
      far = h.far;
    }

    module _ (node : Node) (at : node.structure ≡ place)
        (shapes : node.shapes ≡ shape_places 0 structure.elements)
        (children : AreChildren s (flats ss) nodes 0 structure.elements node.children.items)
        (size : IsSizeHere ss s structure.name node.size) where
      added_node : IsNode (flats ss) (heights ss) s nodes node
      added_node = record {
        structure = structure;
        is = rw at here.is;
        named = rw at here.named;
        below = λ name c. known_target name (known name c);
        shapes = shapes;
        children = children;
        size = size;
      }

      added_each : (k : ℕ) (n : Node) → slice_get (nodes ++ node ∷ []) k ≡ Some n
          → IsNode (flats ss) (heights ss) s (take k (nodes ++ node ∷ [])) n
      added_each k n e = elim (more_get nodes node k n e) [
        | inl h ↦
            let front : take k (nodes ++ node ∷ []) ≡ take k nodes =
            take-append-le k nodes (node ∷ []) (omega (arith, h.0)) in
            rw front (w.each k n h.1)
        | inr h ↦
            let front : take k (nodes ++ node ∷ []) ≡ nodes = ap (λ i. take i (nodes ++ node ∷ []))
            h.0 ∙ take-append_seam nodes (node ∷ []) in
            rw (front, h.1) added_node
      ]

      added_number : (p k : ℕ) → number_at (set numbers place (Some (length nodes))) p ≡ Some k
          → (n : Node) × (slice_get (nodes ++ node ∷ []) k ≡ Some n) × (n.structure ≡ p)
      added_number p k e =
          let within : place < length numbers =
          omega (arith, slice_get_within s.library place structure here.is, w.sized) in
          elim (eqb_tells p place) [
            | inl q ↦
                let there : number_at (set numbers place (Some (length nodes))) p
                ≡ Some (length nodes) = get_or-set_at numbers place p (Some (length nodes)) None
                q.1 within in
                let both : Some (length nodes) ≡ Some k = sym there ∙ e in
                let last : length nodes ≡ k = cc in (
                  node,
                  subst (λ i. slice_get (nodes ++ node ∷ []) i ≡ Some node) last
                      (last_get nodes node),
                  at ∙ sym q.1,
                )
            | inr q ↦
                let there : number_at (set numbers place (Some (length nodes))) p ≡ number_at
                numbers p = get_or-set_other numbers place p (Some (length nodes)) None q.1 in
                let r = w.numbered p k (sym there ∙ e) in
                (r.0, get_more nodes node k r.0 r.1, r.2)
          ]

      pub added_linked : AreLinked ss s table (set numbers place (Some (length nodes)))
          (nodes ++ node ∷ [])
      added_linked = record {
        bindings = w.bindings;
        library = w.library;
        each = added_each;
        sized = length-set numbers place (Some (length nodes)) ∙ w.sized;
        numbered = added_number;
        few = omega (arith, length-append nodes (node ∷ []), few);
      }
