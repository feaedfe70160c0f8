-- The invariants of the loops of `put_lines` in `src/limited.rt`.
use Rattle.std.proofs.Common.{take}
use Rattle.std.specs.List.{flat_map, enumerate_from}
use Rattle.std.specs.Io.KnownBytes.{Appends}
use Rattle.mpw_firm_listing.specs.Limited.{limited_of, rule_lines}
use Rattle.mpw_firm_listing.proofs.limited.put_lines.Given as goal

abbrev pub invariant-loop-place : goal.invariant-loop-place
invariant-loop-place g l =
    Appends (g.W.Write.contents l.initial.writer) (g.W.Write.contents l.writer)
    (flat_map (rule_lines (limited_of l.listing)) (take l.place (enumerate_from 0 l.listing.rules.now)))
