-- For private functions and proofs: runs in order, and merged runs.
use Rattle.std.specs.Prelude.{◌≡◌, ◌≤ℤ◌, List, AllPairs, ◌⊎◌}
use Rattle.std.specs.Int.{int_max}
use Rattle.std.specs.declared.cmp.Ordering.TheVariants.{Less}
use Rattle.mpw_region.specs.declared.runs.Run.{Run}
use Rattle.mpw_region.specs.Runs.{line_cmp}

-- the first run's line comes first, or on one line it begins no later
abbrev pub BeginsFirst : Run → Run → Type 0
BeginsFirst r s = (line_cmp r.line s.line ≡ Less) ⊎ ((r.line ≡ s.line) × (r.from ≤ℤ s.from))

-- runs by line, and on a line by their beginnings
abbrev pub AreInOrder : List Run → Type 0
AreInOrder runs = AllPairs BeginsFirst runs

-- the first run, extended to the end of the second
abbrev pub merged : Run → Run → Run
merged r s = record { line = r.line; from = r.from; to = int_max r.to s.to }
