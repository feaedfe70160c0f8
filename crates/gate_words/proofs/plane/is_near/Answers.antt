-- A box is in the plane if its four coordinates are.
use Rattle.std.proofs.Common.{◌≡◌, ◌↔◌, Bool, true, false, ◌&&◌, ℤ, refl, subst, rules}
use Rattle.std.proofs.lemmas.Bool.{false≢true}
use Rattle.mpw_geom.specs.Plane.{IsCoordinate, IsBoxInPlane}
use Rattle.mpw_geom.specs.declared.plane.Box2.{Box2}
use Rattle.gate_words.proofs.plane.is_near.Goals as goal

near : (b : Box2) (p q r s : Bool) → (p ≡ true) ↔ IsCoordinate b.x0
    → (q ≡ true) ↔ IsCoordinate b.y0 → (r ≡ true) ↔ IsCoordinate b.x1
    → (s ≡ true) ↔ IsCoordinate b.y1 → (((p && q) && r) && s ≡ true) ↔ IsBoxInPlane b
near b true true true true x0 y0 x1 y1 = (
  λ e. record { x0 = x0.0 refl; y0 = y0.0 refl; x1 = x1.0 refl; y1 = y1.0 refl },
  λ h. refl,
)
near b false q r s x0 y0 x1 y1 = (λ e. absurd (false≢true e), λ h. x0.1 h.x0)
near b true false r s x0 y0 x1 y1 = (λ e. absurd (false≢true e), λ h. y0.1 h.y0)
near b true true false s x0 y0 x1 y1 = (λ e. absurd (false≢true e), λ h. x1.1 h.x1)
near b true true true false x0 y0 x1 y1 = (λ e. absurd (false≢true e), λ h. y1.1 h.y1)

-- the same for the number that the code returns
kept : (p : Bool) (z w : ℤ) → (p ≡ true) ↔ IsCoordinate w → w ≡ z → (p ≡ true) ↔ IsCoordinate z
kept p z w h e = subst (λ v. (p ≡ true) ↔ IsCoordinate v) e h

pub returns : goal.returns
returns c =
    let b = c.args.b.now in
    near b _ _ _ _ (kept _ b.x0 _ c.is_coordinate.ensures (search rules))
    (kept _ b.y0 _ c.is_coordinate-2.ensures (search rules))
    (kept _ b.x1 _ c.is_coordinate-3.ensures (search rules))
    (kept _ b.y1 _ c.is_coordinate-4.ensures (search rules))
