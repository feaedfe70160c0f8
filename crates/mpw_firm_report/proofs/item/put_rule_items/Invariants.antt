-- The invariants of the loops of `put_rule_items` in `src/item.rt`.
use Rattle.std.proofs.Common.{◌≡◌, ◌-◌, length, take}
use Rattle.std.specs.List.{flat_map}
use Rattle.std.specs.Io.KnownBytes.{Appends}
use Rattle.mpw_firm_report.specs.Content.{of_rule}
use Rattle.mpw_firm_report.specs.Report.{item_text}
use Rattle.mpw_firm_report.proofs.item.put_rule_items.Given as goal

abbrev pub invariant-loop-marker : goal.invariant-loop-marker
invariant-loop-marker g l =
    (l.left ≡ l.report.limit - length (of_rule (take l.marker-index l.report.markers.now) l.place))
    × Appends (g.W.Write.contents l.initial.writer) (g.W.Write.contents l.writer)
    (flat_map (item_text l.report.top.now l.rule)
    (take l.report.limit (of_rule (take l.marker-index l.report.markers.now) l.place)))
