-- What holds for the mirror and for the turn, and is preserved by composition, holds for each orientation.
use Rattle.mpw_geom.specs.declared.plane.Point.{Point}
use Rattle.mpw_geom.specs.declared.plane.Orient.{Orient}
use Rattle.mpw_geom.specs.declared.plane.Orient.TheVariants.{R0, R90, R180, R270, M0, M90, M180, M270}
use Rattle.mpw_geom.specs.Plane.{Square}
use Rattle.mpw_geom.specs.Placing.{mirrored_point, mirrored_square, turned_point, turned_square, oriented_point, oriented_square}

pub each_orientation : (P : (Point → Point) → (Square → Square) → Type 0) → P (λ p. p) (λ s. s)
    → ((f f' : Point → Point) (g g' : Square → Square) → P f g → P f' g'
    → P (λ p. f' (f p)) (λ s. g' (g s))) → P mirrored_point mirrored_square
    → P turned_point turned_square → (o : Orient) → P (oriented_point o) (oriented_square o)
unfolding oriented_point oriented_square
each_orientation P same behind mirror turn R0 = same
each_orientation P same behind mirror turn R90 = turn
each_orientation P same behind mirror turn R180 = behind _ _ _ _ turn turn
each_orientation P same behind mirror turn R270 =
    behind _ _ _ _ (behind _ _ _ _ turn turn) turn
each_orientation P same behind mirror turn M0 = mirror
each_orientation P same behind mirror turn M90 = behind _ _ _ _ mirror turn
each_orientation P same behind mirror turn M180 =
    behind _ _ _ _ (behind _ _ _ _ mirror turn) turn
each_orientation P same behind mirror turn M270 =
    behind _ _ _ _ (behind _ _ _ _ (behind _ _ _ _ mirror turn) turn) turn
