-- The invariants of the loops of `put_categories` in `src/category.rt`.
use Rattle.std.proofs.Common.{take}
use Rattle.std.specs.List.{flat_map, enumerate_from}
use Rattle.std.specs.Io.KnownBytes.{Appends}
use Rattle.mpw_firm_report.specs.Content.{content_of}
use Rattle.mpw_firm_report.specs.Report.{category_text}
use Rattle.mpw_firm_report.proofs.category.put_categories.Given as goal

abbrev pub invariant-loop-place : goal.invariant-loop-place
invariant-loop-place g l =
    Appends (g.W.Write.contents l.initial.writer) (g.W.Write.contents l.writer)
    (flat_map (category_text (content_of l.report)) (take l.place (enumerate_from 0 l.report.rules.now)))
