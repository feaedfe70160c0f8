-- Answers to the goals of `put_lines` in `src/limited.rt`.
use Rattle.std.proofs.Common.{take, subst}
use Rattle.std.specs.List.{flat_map, enumerate_from}
use Rattle.std.specs.Io.KnownBytes.{Appends}
use Rattle.std.proofs.KnownBytes.{Appends-trans}
use Rattle.mpw_firm_listing.specs.Limited.{limited_of, rule_lines}
use Rattle.mpw_firm_listing.proofs.Rows.{rows_more, rows_all}
use Rattle.mpw_firm_listing.proofs.limited.put_lines.Goals as goal

pub loop-place-preserved : goal.loop-place-preserved
loop-place-preserved g c =
    let at = g.W.Write.contents in
    let i = c.loop-place.place in
    let rule = c.rule-item.result in
    let lines = rule_lines (limited_of c.args.listing.now) in
    subst (λ text. Appends (at c.args.writer.now) (at c.put_rule_lines.new.writer) text)
    (rows_more lines c.args.listing.now.rules.now i rule c.loop-place-test.true)
    (Appends-trans (at c.args.writer.now) (at c.loop-place.writer) (at c.put_rule_lines.new.writer)
    (flat_map lines (take i (enumerate_from 0 c.args.listing.now.rules.now))) _
    c.loop-place.invariant
    (subst (λ r. Appends (at c.loop-place.writer) (at c.put_rule_lines.new.writer)
    (lines (i, r))) c.rule-item.is c.in_ok-put_rule_lines.ensures))

pub returns : goal.returns
returns g c =
    let at = g.W.Write.contents in
    subst (λ text. Appends (at c.args.writer.now) (at c.loop-place.writer) text)
    (rows_all (rule_lines (limited_of c.args.listing.now)) c.args.listing.now.rules.now
    c.loop-place.place c.loop-place-test.false)
    c.loop-place.invariant
