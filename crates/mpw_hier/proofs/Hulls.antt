-- Least boxes that contain others.
use Rattle.std.proofs.Common.{◌≡◌, ℤ, Option, Some, None, refl, ap, sym, ◌∙◌, arith}
use Rattle.std.specs.Int.{int_min, int_max}
use Rattle.std.proofs.lemmas.Int.{ints, clamps}
use Rattle.mpw_geom.proofs.Boxes.{same_box}
use Rattle.mpw_geom.specs.declared.plane.Box2.{Box2}
use Rattle.mpw_geom.specs.Plane.{joined}
use Rattle.mpw_hier.specs.Boxes.{hull}

min_assoc : (a b c : ℤ) → int_min (int_min a b) c ≡ int_min a (int_min b c)
min_assoc a b c = omega (arith, ints, clamps)

max_assoc : (a b c : ℤ) → int_max (int_max a b) c ≡ int_max a (int_max b c)
max_assoc a b c = omega (arith, ints, clamps)

min_comm : (a b : ℤ) → int_min a b ≡ int_min b a
min_comm a b = omega (arith, ints, clamps)

max_comm : (a b : ℤ) → int_max a b ≡ int_max b a
max_comm a b = omega (arith, ints, clamps)

joined_assoc : (a b c : Box2) → joined (joined a b) c ≡ joined a (joined b c)
joined_assoc a b c =
    same_box _ _ (min_assoc a.x0 b.x0 c.x0) (min_assoc a.y0 b.y0 c.y0)
    (max_assoc a.x1 b.x1 c.x1) (max_assoc a.y1 b.y1 c.y1)

joined_comm : (a b : Box2) → joined a b ≡ joined b a
joined_comm a b =
    same_box _ _ (min_comm a.x0 b.x0) (min_comm a.y0 b.y0) (max_comm a.x1 b.x1)
    (max_comm a.y1 b.y1)

pub hull_assoc : (a b c : Option Box2) → hull (hull a b) c ≡ hull a (hull b c)
hull_assoc None b c = refl
hull_assoc (Some a) None c = refl
hull_assoc (Some a) (Some b) None = refl
hull_assoc (Some a) (Some b) (Some c) = ap Some (joined_assoc a b c)

pub hull_comm : (a b : Option Box2) → hull a b ≡ hull b a
hull_comm None None = refl
hull_comm None (Some b) = refl
hull_comm (Some a) None = refl
hull_comm (Some a) (Some b) = ap Some (joined_comm a b)

pub hull_none : (a : Option Box2) → hull a None ≡ a
hull_none None = refl
hull_none (Some a) = refl

-- the second before the first and the third
pub hull_swap : (a b c : Option Box2) → hull a (hull b c) ≡ hull b (hull a c)
hull_swap a b c =
    sym (hull_assoc a b c) ∙ ap (λ o. hull o c) (hull_comm a b) ∙ hull_assoc b a c
