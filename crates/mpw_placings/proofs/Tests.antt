-- What the tests of a placement mean.
use Rattle.std.proofs.Common.{◌≡◌, ℕ, ◌<◌, Bool, true, false, not, ◌&&◌, List, length, get_or, Option, Some, None, refl, ap, ◌∙◌}
use Rattle.std.specs.Prelude.{IfSome, IsTrue, ◌↔◌, option_map}
use Rattle.std.specs.Cmp.Lexicographic.{bytes_decides}
use Rattle.std.proofs.lemmas.List.Folds.{list_any_at}
use Rattle.mpw_geom.specs.declared.plane.Box2.{Box2}
use Rattle.mpw_geom.specs.declared.placing.Placing.{Placing}
use Rattle.mpw_geom.specs.Names.{name_eq}
use Rattle.mpw_hier.specs.declared.submission.Submission.{Submission}
use Rattle.mpw_hier.specs.Boxes.{placed_box, is_box_near}
use Rattle.mpw_hier.specs.Values.{extent}
use Rattle.mpw_walk.specs.declared.root.Root.{Root}
use Rattle.mpw_walk.specs.Roots.{root_extent}
use Rattle.mpw_walk.specs.Walk.{IsRoot}
use Rattle.mpw_placings.specs.declared.placement.Placement.{Placement}
use Rattle.mpw_placings.specs.Placements.{is_at, is_taken, is_far, DifferInName}

-- ---- extents

abbrev IsNear : Placing → Option Box2 → Type 0
IsNear t extent = IfSome extent (λ box. is_box_near (placed_box t box) ≡ true)

near_from_test : (t : Placing) (extent : Option Box2)
    → is_far (option_map (placed_box t) extent) ≡ false → IsNear t extent
near_from_test t None e = tt
near_from_test t (Some box) e = go (is_box_near (placed_box t box)) e
  where
    go : (b : Bool) → not b ≡ false → b ≡ true
    go true e = refl
    go false e = absurd cc

test_from_near : (t : Placing) (extent : Option Box2) → IsNear t extent
    → is_far (option_map (placed_box t) extent) ≡ false
test_from_near t None near = refl
test_from_near t (Some box) near = ap not near

-- a placement that isn't far fits
pub root_from_test : (ss : List Submission) (root : Root) → root.submission < length ss
    → is_far (root_extent ss root) ≡ false → IsRoot ss root
root_from_test ss root within e = record {
  present = within;
  near = near_from_test root.placing (extent ss root.submission) e;
}

-- and one that fits isn't far
pub far_is : (ss : List Submission) (root : Root) (fits : Bool) → root.submission < length ss
    → IsTrue fits ↔ IsRoot ss root → not fits ≡ is_far (root_extent ss root)
far_is ss root fits within same = go fits refl (is_far (root_extent ss root)) refl
  where
    go : (r : Bool) → fits ≡ r → (far : Bool) → is_far (root_extent ss root) ≡ far → not r ≡ far
    go true is true far = absurd (let near : is_far (root_extent ss root) ≡ false = test_from_near
        root.placing (extent ss root.submission) (same.0 is).near in cc)
    go true is false far = refl
    go false is true far = refl
    go false is false far = absurd (let true_is : fits ≡ true = same.1
        (root_from_test ss root within far) in cc)

-- ---- names

both_and : (a b : Bool) → a ≡ true → b ≡ true → (a && b) ≡ true
both_and a b e f = ap (λ c. c && b) e ∙ f

-- a placement has its own cell and label
pub is_at_itself : (cell label : List ℕ) (p : Placement) → p.cell ≡ cell → p.label ≡ label
    → is_at cell label p ≡ true
is_at_itself cell label p c l =
    both_and (name_eq p.cell cell) (name_eq p.label label) ((bytes_decides p.cell cell).1 c)
    ((bytes_decides p.label label).1 l)

-- a name that differs from all others differs from each
pub apart_from_all : (ps : List Placement) (p : Placement) → is_taken ps p.cell p.label ≡ false
    → (k : ℕ) (d : Placement) → k < length ps → DifferInName (get_or ps k d) p
apart_from_all ps p new k d within = λ c l.
    let at : is_at p.cell p.label (get_or ps k d) ≡ true = is_at_itself p.cell p.label
    (get_or ps k d) c l in
    let found : is_taken ps p.cell p.label ≡ true = list_any_at (is_at p.cell p.label) ps k d within
    at in
    cc
