-- Answers to the goals of `without` in `src/cut.rt`.
use Rattle.mpw_firm_skipping.specs.declared.cut.Cut.{Cut}
use Rattle.std.proofs.Common.{◌∙◌, ◌+◌, ◌++◌, drop, get_or, sym, ap, refl, append_assoc}
use Rattle.mpw_firm_skipping.specs.Cuts.{left_from}
use Rattle.mpw_firm_skipping.proofs.Passing.{left_end, left_more}
use Rattle.mpw_firm_skipping.proofs.cut.without.Goals as goal

pub loop-cut-preserved : goal.loop-cut-preserved
loop-cut-preserved c =
    let none : Cut = record { start = 0; end = 0 } in
    let cut = get_or c.args.cuts.now c.loop-cut.cut-index none in
    let more = left_from cut.end (drop (c.loop-cut.cut-index + 1) c.args.cuts.now) c.args.text.now in
    let copy = c.loop-cut.copy.items in
    ap (λ xs. xs ++ more) c.in_ok-extend_from_slice.ensures.items
    ∙ append_assoc copy c.first-piece.result.now more
    ∙ ap (λ piece. copy ++ (piece ++ more)) (c.first-piece.ensures
    ∙ rw (c.from.ensures, c.saturating_sub.ensures) refl)
    ∙ ap (λ all. copy ++ all)
    (sym (left_more c.loop-cut.reached c.args.cuts.now c.loop-cut.cut-index none c.args.text.now
    c.loop-cut-test.true))
    ∙ c.loop-cut.invariant

pub returns : goal.returns
returns c =
    c.in_ok-extend_from_slice-2.ensures.items
    ∙ ap (λ rest. c.loop-cut.copy.items ++ rest) (c.from-2.ensures
    ∙ sym (left_end c.loop-cut.reached c.args.cuts.now c.loop-cut.cut-index c.args.text.now
    c.loop-cut-test.false))
    ∙ c.loop-cut.invariant
