-- Consecutive indices.
use Rattle.std.specs.Prelude.{◌≡◌, ℕ, zero, suc, ◌+◌, ◌^◌, ◌<◌, List, [], ◌∷◌}
use Rattle.mpw_hier.specs.declared.places.Held.{Held}
use Rattle.mpw_hier.specs.declared.places.Held.TheVariants as held
use Rattle.mpw_hier.specs.declared.places.Run.{Run}

-- Consecutive numbers: the first one, and how many there are.
abbrev pub numbers_from : ℕ → ℕ → List ℕ
numbers_from first zero = []
numbers_from first (suc n) = first ∷ numbers_from (first + 1) n

abbrev pub places_in : Held → List ℕ
places_in (held.Run run) = numbers_from run.first run.count
places_in (held.Listed places) = places.items

abbrev pub IsHeld : Held → Type 0
IsHeld (held.Run run) = run.first + run.count < 2 ^ 64
IsHeld (held.Listed places) = Unit {0}

-- The run has exactly these indices.
pub record IsRunOf (places : List ℕ) (run : Run) : Type 0 where
  pub within : run.first + run.count < 2 ^ 64
  pub same : numbers_from run.first run.count ≡ places
