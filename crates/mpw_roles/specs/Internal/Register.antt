-- Definitions for private functions and proofs: names with numbers, some in a set, and the latest next
-- to it.
use Rattle.std.specs.Prelude.{◌≡◌, ℕ, ◌≤◌, true, List, ◌++◌, length}
use Rattle.mpw_roles.specs.Order.{are_distinct}

-- each name occurs once, and few are next to the set
pub record IsRegister (settled latest : List (List ℕ)) : Type 0 where
  pub once : are_distinct (settled ++ latest) ≡ true
  pub few : length latest ≤ 32
