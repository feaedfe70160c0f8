-- Answers to the goals of `left_out_lines` in `src/summary.rt`.
use Rattle.std.proofs.Common.{◌∙◌, ◌++◌, ℕ, List, take, ap}
use Rattle.std.specs.List.{flat_map, enumerate_from}
use Rattle.mpw_deck.specs.declared.rule.Rule.{Rule}
use Rattle.mpw_firm_outputs.specs.LeftOut.{left_out_note, left_out_row}
use Rattle.mpw_firm_report.proofs.Rows.{rows_more, rows_all}
use Rattle.mpw_firm_outputs.proofs.summary.left_out_lines.Goals as goal

pub loop-place-preserved : goal.loop-place-preserved
loop-place-preserved c =
    let rules = c.args.rules.now in
    let counts = c.args.counts.now in
    let most = c.args.most in
    let i = c.loop-place.place in
    let rule = c.index-rules-place.result in
    let lines = flat_map (left_out_row counts most) (take i (enumerate_from 0 rules)) in
    c.in_ok-add_left_out.ensures
    ∙ ap (λ (t : List ℕ). t ++ left_out_note c.as_str.result.now c.number_at-count.result most)
    c.loop-place.invariant
    ∙ ap (λ (n : List ℕ). lines ++ left_out_note n c.number_at-count.result most)
    c.as_str.ensures.text
    ∙ ap (λ (n : ℕ). lines ++ left_out_note rule.name n most) c.number_at-count.ensures
    ∙ ap (λ (r : Rule). lines ++ left_out_row counts most (i, r)) c.index-rules-place.is
    ∙ rows_more (left_out_row counts most) rules i rule c.loop-place-test.true

pub returns : goal.returns
returns c =
    c.loop-place.invariant
    ∙ rows_all (left_out_row c.args.counts.now c.args.most) c.args.rules.now c.loop-place.place
    c.loop-place-test.false
