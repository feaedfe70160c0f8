-- For private functions and proofs: a core in strips, and what rules find in them.
use Rattle.std.specs.Prelude.{ℕ, ◌≤◌, ℤ, List, All, ◌⊎◌, ◌↔◌}
use Rattle.mpw_region.specs.declared.runs.Line.{Line}
use Rattle.mpw_deck.specs.declared.rule.Rule.{Rule}
use Rattle.mpw_checks.specs.declared.strips.Strip.{Strip}
use Rattle.mpw_checks.specs.Strips.{IsStrip, FindsIn}

-- to the strips some were added with exactly the steps of P, for each rule with at most that distance
pub record AddsStrips (distance : ℕ) (old new : List Strip) (P : Rule → Line → ℤ → Type 0) :
    Type 0 where
  pub steps : (rule : Rule) → rule.distance ≤ distance → (line : Line) (j : ℤ)
      → FindsIn new rule line j ↔ (FindsIn old rule line j ⊎ P rule line j)
  pub banded : All IsStrip old → All IsStrip new
