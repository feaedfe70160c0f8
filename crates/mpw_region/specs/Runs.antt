-- Runs of whole numbers on lines, and their order.
use Rattle.std.specs.Prelude.{◌≡◌, ℤ, ◌≤ℤ◌, ◌<ℤ◌, List, All, AllPairs, Contains, ◌⊎◌}
use Rattle.std.specs.Ordering.{nat_cmp, int_cmp, ordering_then}
use Rattle.std.specs.declared.cmp.Ordering.{Ordering}
use Rattle.std.specs.declared.cmp.Ordering.TheVariants.{Less}
use Rattle.mpw_region.specs.declared.runs.Line.{Line}
use Rattle.mpw_region.specs.declared.runs.Run.{Run}

-- lines by side, then by their two numbers
abbrev pub line_cmp : Line → Line → Ordering
line_cmp a b = ordering_then (nat_cmp a.side b.side)
    (ordering_then (int_cmp a.first b.first) (int_cmp a.second b.second))

-- the run has the position: it is on that line, and the position lies from `from` to before `to`
abbrev pub HoldsPlace : Run → Line → ℤ → Type 0
HoldsPlace r line at = (r.line ≡ line) × (r.from ≤ℤ at) × (at <ℤ r.to)

-- some run of the list has the position
abbrev pub CoversPlace : List Run → Line → ℤ → Type 0
CoversPlace runs line at = (r : Run) × Contains runs r × HoldsPlace r line at

-- the run has some position
abbrev pub IsFilled : Run → Type 0
IsFilled r = r.from <ℤ r.to

-- the first run's line comes first, or on one line the first run ends before the second begins, with a gap
abbrev pub StandsBefore : Run → Run → Type 0
StandsBefore r s = (line_cmp r.line s.line ≡ Less) ⊎ ((r.line ≡ s.line) × (r.to <ℤ s.from))

-- non-empty runs in order, no two of which touch
pub record AreApart (runs : List Run) : Type 0 where
  pub filled : All IsFilled runs
  pub ordered : AllPairs StandsBefore runs
