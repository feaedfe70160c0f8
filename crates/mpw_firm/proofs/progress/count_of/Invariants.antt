-- The invariants of the loops of `count_of` in `src/progress.rt`.
use Rattle.std.proofs.Common.{◌≡◌, ◌||◌, ltb, drop, take}
use Rattle.std.specs.List.{list_any}
use Rattle.mpw_firm.specs.Counts.{count_of, has_some}
use Rattle.mpw_firm.proofs.progress.count_of.Given as goal

-- the count is that of the lists so far; some were found so far, or are still to find
abbrev pub invariant-loop-list : goal.invariant-loop-list
invariant-loop-list l = (l.count ≡ count_of (take l.list-index l.lists))
    × ((ltb 0 l.count || list_any has_some (drop l.list-index l.lists)) ≡ list_any has_some l.lists)
