-- The invariants of the loops of `put_rule_lines` in `src/limited.rt`.
use Rattle.std.proofs.Common.{◌≡◌, ◌-◌, length, take}
use Rattle.std.specs.List.{flat_map}
use Rattle.std.specs.Io.KnownBytes.{Appends}
use Rattle.mpw_firm_report.specs.Content.{of_rule}
use Rattle.mpw_firm_listing.specs.Lines.{line_text}
use Rattle.mpw_firm_listing.proofs.limited.put_rule_lines.Given as goal

abbrev pub invariant-loop-marker : goal.invariant-loop-marker
invariant-loop-marker g l =
    (l.left ≡ l.listing.limit - length (of_rule (take l.marker-index l.listing.markers.now) l.place))
    × Appends (g.W.Write.contents l.initial.writer) (g.W.Write.contents l.writer)
    (flat_map (line_text l.listing.parts.now l.listing.top.now l.rule)
    (take l.listing.limit (of_rule (take l.marker-index l.listing.markers.now) l.place)))
