-- Answers to the goals of `put_items` in `src/item.rt`.
use Rattle.std.proofs.Common.{take, subst}
use Rattle.std.specs.List.{flat_map, enumerate_from}
use Rattle.std.specs.Io.KnownBytes.{Appends}
use Rattle.std.proofs.KnownBytes.{Appends-trans}
use Rattle.mpw_firm_report.specs.Content.{content_of}
use Rattle.mpw_firm_report.specs.Report.{rule_items}
use Rattle.mpw_firm_report.proofs.Rows.{rows_more, rows_all}
use Rattle.mpw_firm_report.proofs.item.put_items.Goals as goal

pub loop-place-preserved : goal.loop-place-preserved
loop-place-preserved g c =
    let at = g.W.Write.contents in
    let i = c.loop-place.place in
    let rule = c.rule-item.result in
    subst (λ text. Appends (at c.args.writer.now) (at c.put_rule_items.new.writer) text)
    (rows_more (rule_items (content_of c.args.report.now)) c.args.report.now.rules.now i rule c.loop-place-test.true)
    (Appends-trans (at c.args.writer.now) (at c.loop-place.writer) (at c.put_rule_items.new.writer)
    (flat_map (rule_items (content_of c.args.report.now)) (take i (enumerate_from 0 c.args.report.now.rules.now))) _
    c.loop-place.invariant
    (subst (λ r. Appends (at c.loop-place.writer) (at c.put_rule_items.new.writer)
    (rule_items (content_of c.args.report.now) (i, r))) c.rule-item.is c.in_ok-put_rule_items.ensures))

pub returns : goal.returns
returns g c =
    let at = g.W.Write.contents in
    subst (λ text. Appends (at c.args.writer.now) (at c.loop-place.writer) text)
    (rows_all (rule_items (content_of c.args.report.now)) c.args.report.now.rules.now c.loop-place.place
    c.loop-place-test.false) c.loop-place.invariant
