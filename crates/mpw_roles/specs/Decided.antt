-- Decision tables: a request is tested in the order of its table, and the first test that fails
-- decides the answer.
use Rattle.std.specs.Prelude.{Bool, List, [], ◌∷◌, Result, Ok, Err, if◌then◌else◌}

abbrev pub decided : {A F : Type 0} → List (Bool × F) → A → Result A F
decided [] value = Ok value
decided (test ∷ tests) value = if test.0 then decided tests value else Err test.1
