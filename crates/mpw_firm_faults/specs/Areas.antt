-- The box of an element's points.
use Rattle.std.specs.Prelude.{ℕ, ◌==◌, List, fold, Option, Some, None, option_and_then, Ok, Err, if◌then◌else◌}
use Rattle.mpw_elements.specs.Values.{points_of}
use Rattle.mpw_geom.specs.Plane.{box_at, joined}
use Rattle.mpw_geom.specs.declared.plane.Box2.{Box2}
use Rattle.mpw_geom.specs.declared.plane.Point.{Point}
use Rattle.mpw_records.specs.Records.{RecordOutcome, front}
use Rattle.mpw_records.specs.declared.kind.TheConstants.{XY}

-- The least box with the points so far and one more.
abbrev pub holding : Option Box2 → Point → Option Box2
holding None p = Some (box_at p)
holding (Some b) p = Some (joined b (box_at p))

-- The least box with all points of XY's data, in nm; none if there are no points.
abbrev pub box_of : ℕ → List ℕ → Option Box2
box_of unit bytes = fold holding None (points_of unit bytes)

-- The least box of the XY at an offset.
abbrev pub boxed : ℕ → RecordOutcome → Option Box2
boxed unit (Err fault) = None
boxed unit (Ok r) = if r.kind == XY then box_of unit r.bytes else None

abbrev pub own_area : ℕ → List ℕ → Option ℕ → Option Box2
own_area unit text place = option_and_then (λ at. boxed unit (front text at)) place
