-- The invariants of the loops of `cuts_among` in `src/layers.rt`.
use Rattle.std.proofs.Common.{◌≡◌, map, filter, take}
use Rattle.mpw_firm_skipping.specs.Cuts.{cut_of, is_named}
use Rattle.mpw_firm_skipping.proofs.layers.cuts_among.Given as goal

-- the cuts are those of the elements so far
abbrev pub invariant-loop-span : goal.invariant-loop-span
invariant-loop-span l =
    l.cuts.items ≡ map cut_of (filter (is_named l.layers) (take l.span-index l.spans))
