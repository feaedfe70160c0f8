-- Answers to the goals of `are_apart` in `src/book.rt`.
use Rattle.std.proofs.Common.{◌∙◌, sym}
use Rattle.mpw_firm_parts.proofs.Bound.{not_apart, apart_next}
use Rattle.mpw_firm_parts.proofs.book.are_apart.Goals as goal

pub returns-then-not-stands_before : goal.returns-then-not-stands_before
returns-then-not-stands_before c = (
  λ none. absurd cc,
  λ apart. sym c.if-not-stands_before.true ∙ c.stands_before.ensures.1
      (not_apart c.args.markers.now c.loop-place.place _ _ _ _ c.loop-place.invariant.0
      c.loop-place-test.true apart c.index-markers-place.is
      c.index-markers-place-in-loop-place.is),
)

pub loop-place-preserved : goal.loop-place-preserved
loop-place-preserved c =
    apart_next c.args.markers.now c.loop-place.place _ _ _ _ c.requires c.loop-place.invariant.0
    c.loop-place-test.true c.loop-place.invariant.1 c.index-markers-place.is
    c.index-markers-place-in-loop-place.is
    (c.stands_before.ensures.0 c.if-not-stands_before.false)
