-- Answers to the goals of `put_rules` in `src/summary.rt`.
use Rattle.std.proofs.Common.{◌≡◌, ◌∙◌, ℕ, List, get_or, take, ap, subst}
use Rattle.std.specs.List.{flat_map, enumerate_from}
use Rattle.std.specs.Io.KnownBytes.{Appends}
use Rattle.std.proofs.KnownBytes.{Appends-trans}
use Rattle.mpw_deck.specs.declared.rule.Rule.{Rule}
use Rattle.mpw_firm_outputs.specs.Counted.{count_line, rule_line}
use Rattle.mpw_firm_report.proofs.Rows.{rows_more, rows_all}
use Rattle.mpw_firm_outputs.proofs.summary.put_rules.Goals as goal

pub loop-place-preserved : goal.loop-place-preserved
loop-place-preserved g c =
    let at = g.W.Write.contents in
    let rules = c.args.rules.now in
    let line = rule_line c.args.counts.now in
    let i = c.loop-place.place in
    let rule = c.index-rules-place.result in
    let same : count_line c.as_str.result.now c.number_at.result ≡ line (i, get_or rules i rule) =
    ap (λ (n : List ℕ). count_line n c.number_at.result) c.as_str.ensures.text
    ∙ ap (λ (n : ℕ). count_line rule.name n) c.number_at.ensures
    ∙ ap (λ (r : Rule). line (i, r)) c.index-rules-place.is in
    subst (λ text. Appends (at c.args.writer.now) (at c.put_line.new.writer) text)
    (rows_more line rules i rule c.loop-place-test.true)
    (Appends-trans (at c.args.writer.now) (at c.loop-place.writer) (at c.put_line.new.writer)
    (flat_map line (take i (enumerate_from 0 rules))) _
    c.loop-place.invariant
    (subst (λ text. Appends (at c.loop-place.writer) (at c.put_line.new.writer) text) same
    c.in_ok-put_line.ensures))

pub returns : goal.returns
returns g c =
    let at = g.W.Write.contents in
    subst (λ text. Appends (at c.args.writer.now) (at c.loop-place.writer) text)
    (rows_all (rule_line c.args.counts.now) c.args.rules.now c.loop-place.place
    c.loop-place-test.false)
    c.loop-place.invariant
