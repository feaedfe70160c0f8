-- Equal boxes.
use Rattle.std.proofs.Common.{◌≡◌, Bool, true, ◌&&◌, refl, sym, subst, ap, ◌∙◌}
use Rattle.std.specs.Prelude.{ℤ, IsTrue, ◌↔◌}
use Rattle.std.specs.Ordering.{int_eq}
use Rattle.std.proofs.lemmas.Bool.{and_parts, and_from}
use Rattle.std.proofs.lemmas.Bool.Decides.{Decides-int_eq}
use Rattle.mpw_geom.specs.declared.plane.Box2.{Box2}

pub same_box : (a b : Box2) → a.x0 ≡ b.x0 → a.y0 ≡ b.y0 → a.x1 ≡ b.x1 → a.y1 ≡ b.y1 → a ≡ b
same_box a b e f g h =
    ap (λ (p : ℤ × ℤ × ℤ × ℤ). let c : Box2 = record { x0 = p.0; y0 = p.1; x1 = p.2; y1 = p.3 } in
    c) (let k : (let q : ℤ × ℤ × ℤ × ℤ = (a.x0, a.y0, a.x1, a.y1) in q)
    ≡ (b.x0, b.y0, b.x1, b.y1) = cc in k)

abbrev same_corners : Box2 → Box2 → Bool
same_corners a b = int_eq a.x0 b.x0 && (int_eq a.y0 b.y0 && (int_eq a.x1 b.x1 && int_eq a.y1 b.y1))

corners_same : (a b : Box2) → same_corners a b ≡ true → a ≡ b
corners_same a b e =
    let p = and_parts _ _ e in
    let q = and_parts _ _ p.1 in
    let r = and_parts _ _ q.1 in
    same_box a b ((Decides-int_eq a.x0 b.x0).0 p.0) ((Decides-int_eq a.y0 b.y0).0 q.0)
    ((Decides-int_eq a.x1 b.x1).0 r.0) ((Decides-int_eq a.y1 b.y1).0 r.1)

own_corners : (a : Box2) → same_corners a a ≡ true
own_corners a = and_from _ _ ((Decides-int_eq a.x0 a.x0).1 refl)
    (and_from _ _ ((Decides-int_eq a.y0 a.y0).1 refl)
    (and_from _ _ ((Decides-int_eq a.x1 a.x1).1 refl) ((Decides-int_eq a.y1 a.y1).1 refl)))

pub same_area : (a b : Box2) (r : Bool) → r ≡ same_corners a b → IsTrue r ↔ (a ≡ b)
same_area a b r e = (
  λ t. corners_same a b (sym e ∙ t),
  λ f. subst IsTrue (sym e) (subst (λ (x : Box2). same_corners a x ≡ true) f (own_corners a)),
)
