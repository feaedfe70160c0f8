-- The invariants of the loops of `put_items` in `src/item.rt`.
use Rattle.std.proofs.Common.{take}
use Rattle.std.specs.List.{flat_map, enumerate_from}
use Rattle.std.specs.Io.KnownBytes.{Appends}
use Rattle.mpw_firm_report.specs.Content.{content_of}
use Rattle.mpw_firm_report.specs.Report.{rule_items}
use Rattle.mpw_firm_report.proofs.item.put_items.Given as goal

abbrev pub invariant-loop-place : goal.invariant-loop-place
invariant-loop-place g l =
    Appends (g.W.Write.contents l.initial.writer) (g.W.Write.contents l.writer)
    (flat_map (rule_items (content_of l.report)) (take l.place (enumerate_from 0 l.report.rules.now)))
