-- For private functions and proofs: runs.
use Rattle.std.specs.Prelude.{ℤ, List, All, ◌⊎◌, ◌↔◌}
use Rattle.mpw_region.specs.declared.runs.Line.{Line}
use Rattle.mpw_region.specs.declared.runs.Run.{Run}
use Rattle.mpw_region.specs.Runs.{CoversPlace, IsFilled}

-- to the runs some were added that have exactly the positions of P
pub record Adds (old new : List Run) (P : Line → ℤ → Type 0) : Type 0 where
  pub places : (line : Line) (at : ℤ) → CoversPlace new line at
      ↔ (CoversPlace old line at ⊎ P line at)
  pub filled : All IsFilled old → All IsFilled new

-- the runs are not empty, and have exactly the positions of P
pub record Finds (runs : List Run) (P : Line → ℤ → Type 0) : Type 0 where
  pub places : (line : Line) (at : ℤ) → CoversPlace runs line at ↔ P line at
  pub filled : All IsFilled runs
