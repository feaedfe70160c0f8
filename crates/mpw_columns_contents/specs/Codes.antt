-- A hash code of contents that doesn't depend on their position.
use Rattle.std.specs.Prelude.{ℕ, ◌+◌, ◌*◌, ◌%◌, ◌^◌, ◌-ℤ◌, unsigned_abs, List, [], ◌∷◌, fold}
use Rattle.mpw_geom.specs.declared.plane.Point.{Point}
use Rattle.mpw_columns_contents.specs.declared.thing.Array.{Array}
use Rattle.mpw_columns_contents.specs.declared.thing.Shape.{Shape}
use Rattle.mpw_columns_contents.specs.declared.thing.Thing.{Thing}
use Rattle.mpw_columns_contents.specs.declared.thing.Thing.TheVariants as things
use Rattle.mpw_columns_contents.specs.Displaced.{place_of_thing}

-- A code with one more number, modulo 2^64, by a prime.
unfoldable pub mixed : ℕ → ℕ → ℕ
mixed code n = ((code * 1099511628211) % 2 ^ 64 + n) % 2 ^ 64

-- A code with the displacement from one point to another.
abbrev pub with_place : ℕ → (from at : Point) → ℕ
with_place code from at =
    mixed (mixed code (unsigned_abs (at.x -ℤ from.x))) (unsigned_abs (at.y -ℤ from.y))

-- A code with an entry, and its displacement from a point.
abbrev pub shape_code : Point → ℕ → Shape → ℕ
shape_code from code s = with_place (mixed (mixed code s.structure) s.element) from s.placing.by

abbrev pub array_code : Point → ℕ → Array → ℕ
array_code from code a =
    with_place (mixed (mixed (mixed code a.structure) a.columns) a.rows) from a.first.by

abbrev pub thing_code : Point → ℕ → Thing → ℕ
thing_code from code (things.Shape s) = shape_code from code s
thing_code from code (things.Array a) = array_code from code a

-- The code of all of them, by the displacement of each from the first.
unfoldable pub code_of : List Thing → ℕ
code_of [] = 0
code_of (t ∷ ts) = fold (thing_code (place_of_thing t)) 0 (t ∷ ts)
