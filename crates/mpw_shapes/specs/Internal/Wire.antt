-- For private functions and proofs: a segment's box by its interval along each axis.
use Rattle.std.specs.Prelude.{ℤ, ◌+ℤ◌, ◌-ℤ◌, int_lt, if◌then◌else◌}
use Rattle.mpw_geom.specs.declared.plane.Box2.{Box2}
use Rattle.mpw_shapes.specs.declared.path.Stretch.{Stretch}

-- from p to q, extended by `before` at p and by `behind` at q
unfoldable pub along : (before behind p q : ℤ) → Stretch
along before behind p q =
    if int_lt p q then record { low = p -ℤ before; high = q +ℤ behind }
    else record { low = q -ℤ behind; high = p +ℤ before }

-- `half` on each side of a coordinate
abbrev pub across : (half at : ℤ) → Stretch
across half at = record { low = at -ℤ half; high = at +ℤ half }

abbrev pub framed : (x y : Stretch) → Box2
framed x y = record { x0 = x.low; y0 = y.low; x1 = x.high; y1 = y.high }
