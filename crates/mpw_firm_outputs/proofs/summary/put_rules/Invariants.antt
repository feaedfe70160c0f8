-- The invariants of the loops of `put_rules` in `src/summary.rt`.
use Rattle.std.proofs.Common.{take}
use Rattle.std.specs.List.{flat_map, enumerate_from}
use Rattle.std.specs.Io.KnownBytes.{Appends}
use Rattle.mpw_firm_outputs.specs.Counted.{rule_line}
use Rattle.mpw_firm_outputs.proofs.summary.put_rules.Given as goal

abbrev pub invariant-loop-place : goal.invariant-loop-place
invariant-loop-place g l =
    Appends (g.W.Write.contents l.initial.writer) (g.W.Write.contents l.writer)
    (flat_map (rule_line l.counts) (take l.place (enumerate_from 0 l.rules)))
