-- Corners in a drawing, as the code computes them.
use Rattle.std.proofs.Common.{◌≡◌, w64, SFits, to_z, of_z, ℤ, refl, ap, arith, rules}
use Rattle.std.specs.Prelude.{◌-ℤ◌}
use Rattle.std.specs.Int.{w128}
use Rattle.std.proofs.lemmas.Int.{to_z-of_z}
use Rattle.mpw_firm_picture.specs.declared.size.Corners.{Corners}

wide : (z : ℤ) → SFits w64 z → SFits w128 z
wide z f = record { sfits = omega (arith, f.sfits) }

apart : (a b : ℤ) → SFits w64 a → SFits w64 b → SFits w128 (a -ℤ b)
apart a b f g = search rules

-- the difference of two coordinates
pub difference : (a b p q : ℤ) → SFits w64 a → SFits w64 b → p ≡ to_z w64 (of_z w64 a)
    → q ≡ to_z w64 (of_z w64 b) → to_z w128 (of_z w128 (to_z w128 (of_z w128 p) -ℤ
    to_z w128 (of_z w128 q))) ≡ a -ℤ b
difference a b p q f g e h =
    rw (
      e,
      h,
      to_z-of_z w64 a f,
      to_z-of_z w64 b g,
      to_z-of_z w128 a (wide a f),
      to_z-of_z w128 b (wide b g),
      to_z-of_z w128 (a -ℤ b) (apart a b f g),
    ) refl

pub same_corners : (a b : Corners) → a.left ≡ b.left → a.top ≡ b.top → a.right ≡ b.right
    → a.bottom ≡ b.bottom → a ≡ b
same_corners a b e f g h =
    ap (λ (p : ℤ × ℤ × ℤ × ℤ). let c : Corners = record {
      left = p.0;
      top = p.1;
      right = p.2;
      bottom = p.3;
    } in
    c) (let k : (let q : ℤ × ℤ × ℤ × ℤ = (a.left, a.top, a.right, a.bottom) in q)
    ≡ (b.left, b.top, b.right, b.bottom) = cc in k)
