-- Answers to the goals of `original` in `src/cut.rt`.
use Rattle.mpw_firm_skipping.specs.declared.cut.Cut.{Cut}
use Rattle.std.proofs.Common.{◌∙◌, ◌≤◌, ◌<◌, ◌-◌, ◌+◌, get_or, drop, sym, ap, subst}
use Rattle.mpw_firm_skipping.specs.Cuts.{original_from}
use Rattle.mpw_firm_skipping.proofs.Passing.{original_end, original_here, original_more}
use Rattle.mpw_firm_skipping.proofs.cut.original.Goals as goal

pub returns-then-left-piece : goal.returns-then-left-piece
returns-then-left-piece c =
    c.saturating_add.ensures
    ∙ sym (original_here c.loop-cut.reached c.args.cuts.now c.loop-cut.cut-index
    (record { start = 0; end = 0 }) c.loop-cut.left c.loop-cut-test.true
    (subst (λ n. c.loop-cut.left < n) c.saturating_sub-piece.ensures c.if-left-piece.true))
    ∙ c.loop-cut.invariant

pub loop-cut-preserved : goal.loop-cut-preserved
loop-cut-preserved c =
    let none : Cut = record { start = 0; end = 0 } in
    let cut = get_or c.args.cuts.now c.loop-cut.cut-index none in
    ap (λ n. original_from cut.end (drop (c.loop-cut.cut-index + 1) c.args.cuts.now)
    (c.loop-cut.left - n)) c.saturating_sub-piece.ensures
    ∙ sym (original_more c.loop-cut.reached c.args.cuts.now c.loop-cut.cut-index none c.loop-cut.left
    c.loop-cut-test.true
    (subst (λ n. n ≤ c.loop-cut.left) c.saturating_sub-piece.ensures c.if-left-piece.false))
    ∙ c.loop-cut.invariant

pub returns : goal.returns
returns c =
    c.saturating_add-2.ensures
    ∙ sym (original_end c.loop-cut.reached c.args.cuts.now c.loop-cut.cut-index c.loop-cut.left
    c.loop-cut-test.false)
    ∙ c.loop-cut.invariant
