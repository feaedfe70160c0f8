-- For private functions and proofs: the turns of a walk.
use Rattle.std.specs.Prelude.{List, [], ◌∷◌, Option, Some, None}
use Rattle.mpw_hier.specs.Items.{Item}
use Rattle.mpw_walk.specs.Turns.{Turn}

-- The first shape that turns give, and the turns after it.
abbrev pub first_given : List Turn → Option Item
first_given [] = None
first_given (Turn.enter extent ∷ turns) = first_given turns
first_given (Turn.give item ∷ turns) = Some item
