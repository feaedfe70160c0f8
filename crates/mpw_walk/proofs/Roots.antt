-- The content of roots, by the content of their submissions.
use Rattle.std.proofs.Common.{◌≡◌, ℕ, ◌<◌, List, [], ◌∷◌, ◌++◌, length, map, Option, Some, None, refl, sym, ap, subst, ◌∙◌, arith, append-nil}
use Rattle.std.specs.Prelude.{All, IfSome, option_map, true, ◌↔◌}
use Rattle.std.specs.List.{flat_map}
use Rattle.std.proofs.lemmas.Int.{ints}
use Rattle.std.proofs.lemmas.List.{length-append, length-map}
use Rattle.std.proofs.lemmas.List.Sums.{sum_by-cons}
use Rattle.std.proofs.lemmas.List.Elements.{All-nil, All-head, All-tail, All-append, All-map, All-weaker}
use Rattle.mpw_geom.specs.declared.plane.Box2.{Box2}
use Rattle.mpw_geom.specs.declared.placing.Placing.{Placing}
use Rattle.mpw_geom.specs.Placing.{placed_point, oriented_point}
use Rattle.mpw_geom.proofs.Chains.{same_point}
use Rattle.mpw_hier.specs.declared.submission.Submission.{Submission}
use Rattle.mpw_hier.specs.Items.{Item, placed_again, placed_item}
use Rattle.mpw_hier.specs.Boxes.{placed_box, is_box_near, extent_of}
use Rattle.mpw_hier.specs.Values.{flat, extent}
use Rattle.mpw_hier.specs.Limits.{IsShelf}
use Rattle.mpw_hier.specs.Shelved.{IsOrigin, ShapesAreOfEarlier, ShelvesAreLimited, EarlierStay}
use Rattle.mpw_hier.specs.Holding.{ExtentsAreJoined, ExtentsArePlaced}
use Rattle.mpw_walk.specs.declared.root.Root.{Root}
use Rattle.mpw_walk.specs.Turns.{flat_root, flat_roots}
use Rattle.mpw_walk.specs.Walk.{IsRoot}
use Rattle.mpw_walk.specs.Roots.{root_at_origin, roots_extent, roots_count}
use Rattle.mpw_walk.proofs.Placings.{same_placing, here}

-- ---- the position where a submission was drawn

here_placed : (t : Placing) → placed_again here t ≡ t
unfolding placed_again placed_point oriented_point
here_placed t = same_placing _ _ refl (same_point _ _ (omega (arith, ints)) (omega (arith, ints)))

items_here : (items : List Item) → map (placed_item here) items ≡ items
items_here [] = refl
items_here (i ∷ is) =
    let one : placed_item here i ≡ i =
    ap (λ t. record { origin = i.origin; placing = t; element = i.element })
    (here_placed i.placing) in
    rw (one, items_here is) refl

pub unmoved_shapes : (ss : List Submission) (number : ℕ)
    → flat_roots ss (root_at_origin number ∷ []) ≡ flat ss number
unfolding flat_roots
unmoved_shapes ss number =
    append-nil (map (placed_item here) (flat ss number)) ∙ items_here (flat ss number)

near_here : (o : Option Box2) → IfSome (option_map (placed_box here) o)
    (λ box. is_box_near box ≡ true) → IfSome o (λ box. is_box_near (placed_box here box) ≡ true)
near_here None h = tt
near_here (Some box) h = h

pub unmoved_fits : ShelvesAreLimited → ExtentsArePlaced → (ss : List Submission) → IsShelf ss
    → (number : ℕ) → number < length ss → IsRoot ss (root_at_origin number)
unmoved_fits limits placed ss shelf number lt =
    let same : extent ss number ≡ option_map (placed_box here) (extent ss number) =
    sym (ap extent_of (items_here (flat ss number))) ∙ placed here (flat ss number) in
    record {
      present = lt;
      near = near_here (extent ss number)
          (subst (λ o. IfSome o (λ box. is_box_near box ≡ true)) same
          (limits ss shelf number).near);
    }

-- ---- the origins of shapes

pub roots_origins : ShapesAreOfEarlier → (ss : List Submission) (roots : List Root)
    → All (λ (i : Item). i.origin < length ss) (flat_roots ss roots)
unfolding flat_roots
roots_origins earlier ss [] = All-nil (λ (i : Item). i.origin < length ss)
roots_origins earlier ss (root ∷ roots) =
    let P : Item → Type 0 = λ i. i.origin < length ss in
    let own = All-weaker (IsOrigin ss root.submission) P (λ i h. h.within) (flat ss root.submission)
    (earlier ss root.submission) in
    All-append P (flat_root ss root) (flat_map (flat_root ss) roots)
    (All-map P (placed_item root.placing) (flat ss root.submission) own)
    (roots_origins earlier ss roots)

-- ---- later submissions

pub root_stays : EarlierStay → (ss later : List Submission) (root : Root)
    → root.submission < length ss → IsRoot ss root ↔ IsRoot (ss ++ later) root
root_stays stay ss later root lt =
    let reach = (stay ss later root.submission lt).reach in
    let near : Option Box2 → Type 0 = λ o. IfSome o
    (λ box. is_box_near (placed_box root.placing box) ≡ true) in (
      λ h. record {
        present = omega (arith, lt, length-append ss later);
        near = subst near (sym reach) h.near;
      },
      λ h. record { present = lt; near = subst near reach h.near },
    )

pub roots_stay : EarlierStay → (ss later : List Submission) (roots : List Root)
    → All (IsRoot ss) roots → flat_roots (ss ++ later) roots ≡ flat_roots ss roots
unfolding flat_roots
roots_stay stay ss later [] h = refl
roots_stay stay ss later (root ∷ roots) h =
    let one = (stay ss later root.submission (All-head (IsRoot ss) root roots h).present).shapes in
    rw (one, roots_stay stay ss later roots (All-tail (IsRoot ss) root roots h)) refl

-- ---- the size of roots

pub roots_reach : ExtentsAreJoined → ExtentsArePlaced → (ss : List Submission) (roots : List Root)
    → extent_of (flat_roots ss roots) ≡ roots_extent ss roots
unfolding flat_roots roots_extent extent_of
roots_reach joined placed ss [] = refl
roots_reach joined placed ss (root ∷ roots) =
    joined (flat_root ss root) (flat_map (flat_root ss) roots)
    ∙ rw (placed root.placing (flat ss root.submission), roots_reach joined placed ss roots)
    refl

pub roots_counted : (ss : List Submission) (roots : List Root)
    → length (flat_roots ss roots) ≡ roots_count ss roots
unfolding flat_roots
roots_counted ss [] = refl
roots_counted ss (root ∷ roots) =
    let shapes = flat ss root.submission in
    omega (
      arith,
      length-append (flat_root ss root) (flat_map (flat_root ss) roots),
      length-map shapes (placed_item root.placing),
      roots_counted ss roots,
      sum_by-cons (λ (r : Root). length (flat ss r.submission)) root roots,
    )
