-- Answers to the goals of `put_categories` in `src/category.rt`.
use Rattle.std.proofs.Common.{take, subst}
use Rattle.std.specs.List.{flat_map, enumerate_from}
use Rattle.std.specs.Io.KnownBytes.{Appends}
use Rattle.std.proofs.KnownBytes.{Appends-trans}
use Rattle.mpw_firm_report.specs.Content.{content_of}
use Rattle.mpw_firm_report.specs.Report.{category_text}
use Rattle.mpw_firm_report.proofs.Rows.{rows_more, rows_all}
use Rattle.mpw_firm_report.proofs.category.put_categories.Goals as goal

pub loop-place-preserved : goal.loop-place-preserved
loop-place-preserved g c =
    let at = g.W.Write.contents in
    let i = c.loop-place.place in
    let rule = c.rule-item.result in
    subst (λ text. Appends (at c.args.writer.now) (at c.put_category.new.writer) text)
    (rows_more (category_text (content_of c.args.report.now)) c.args.report.now.rules.now i rule c.loop-place-test.true)
    (Appends-trans (at c.args.writer.now) (at c.loop-place.writer) (at c.put_category.new.writer)
    (flat_map (category_text (content_of c.args.report.now)) (take i (enumerate_from 0 c.args.report.now.rules.now))) _
    c.loop-place.invariant
    (subst (λ r. Appends (at c.loop-place.writer) (at c.put_category.new.writer)
    (category_text (content_of c.args.report.now) (i, r))) c.rule-item.is c.in_ok-put_category.ensures))

pub returns : goal.returns
returns g c =
    let at = g.W.Write.contents in
    subst (λ text. Appends (at c.args.writer.now) (at c.loop-place.writer) text)
    (rows_all (category_text (content_of c.args.report.now)) c.args.report.now.rules.now c.loop-place.place
    c.loop-place-test.false) c.loop-place.invariant
