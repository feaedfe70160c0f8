-- An orientation, and the one that undoes it.
use Rattle.std.proofs.Common.{◌≡◌, refl, ◌∙◌, subst}
use Rattle.mpw_geom.specs.declared.plane.Point.{Point}
use Rattle.mpw_geom.specs.declared.plane.Orient.{Orient}
use Rattle.mpw_geom.specs.declared.plane.Orient.TheVariants.{R0, R90, R180, R270, M0, M90, M180, M270}
use Rattle.mpw_geom.specs.Plane.{Square}
use Rattle.mpw_geom.specs.Placing.{oriented_point, oriented_square, undoing}
use Rattle.mpw_geom.proofs.Turns.{negated_twice, mirrored_row}

pub undone_point : (o : Orient) (p : Point) → oriented_point (undoing o) (oriented_point o p) ≡ p
unfolding oriented_point
undone_point R0 p = refl
undone_point R90 p = λ k. record { x = negated_twice p.x k; y = negated_twice p.y k }
undone_point R180 p = λ k. record { x = negated_twice p.x k; y = negated_twice p.y k }
undone_point R270 p = λ k. record { x = negated_twice p.x k; y = negated_twice p.y k }
undone_point M0 p = λ k. record { x = p.x; y = negated_twice p.y k }
undone_point M90 p = λ k. record { x = negated_twice p.x k; y = negated_twice p.y k }
undone_point M180 p = λ k. record {
  x = negated_twice p.x k;
  y = (negated_twice _ ∙ negated_twice p.y) k;
}
undone_point M270 p = λ k. record {
  x = (negated_twice _ ∙ negated_twice p.x) k;
  y = (negated_twice _ ∙ negated_twice p.y) k;
}

pub undone_square : (o : Orient) (s : Square)
    → oriented_square (undoing o) (oriented_square o s) ≡ s
unfolding oriented_square
undone_square R0 s = refl
undone_square R90 s =
    λ k. record { column = mirrored_row s.column k; row = mirrored_row s.row k }
undone_square R180 s =
    λ k. record { column = mirrored_row s.column k; row = mirrored_row s.row k }
undone_square R270 s =
    λ k. record { column = mirrored_row s.column k; row = mirrored_row s.row k }
undone_square M0 s = λ k. record { column = s.column; row = mirrored_row s.row k }
undone_square M90 s =
    λ k. record { column = mirrored_row s.column k; row = mirrored_row s.row k }
undone_square M180 s = λ k. record {
  column = mirrored_row s.column k;
  row = (mirrored_row _ ∙ mirrored_row s.row) k;
}
undone_square M270 s = λ k. record {
  column = (mirrored_row _ ∙ mirrored_row s.column) k;
  row = (mirrored_row _ ∙ mirrored_row s.row) k;
}

-- the inverse of the inverse is the orientation itself
undoing_twice : (o : Orient) → undoing (undoing o) ≡ o
undoing_twice R0 = refl
undoing_twice R90 = refl
undoing_twice R180 = refl
undoing_twice R270 = refl
undoing_twice M0 = refl
undoing_twice M90 = refl
undoing_twice M180 = refl
undoing_twice M270 = refl

pub point_undone : (o : Orient) (p : Point) → oriented_point o (oriented_point (undoing o) p) ≡ p
point_undone o p =
    subst (λ (q : Orient). oriented_point q (oriented_point (undoing o) p) ≡ p) (undoing_twice o)
    (undone_point (undoing o) p)

pub square_undone : (o : Orient) (s : Square)
    → oriented_square o (oriented_square (undoing o) s) ≡ s
square_undone o s =
    subst (λ (q : Orient). oriented_square q (oriented_square (undoing o) s) ≡ s) (undoing_twice o)
    (undone_square (undoing o) s)
