-- Answers to the goals of `segment_box` in `src/size_shape.rt`.
use Rattle.std.proofs.Common.{◌≡◌, length, cond, eqb, ℤ, sym, ◌∙◌, arith}
use Rattle.std.proofs.lemmas.List.{get_or_default}
use Rattle.mpw_hier.proofs.ElementBoxes.{segment_on, last_end, inner_end}
use Rattle.mpw_hier.proofs.size_shape.segment_box.Goals as goal
use Rattle.mpw_hier.proofs.size_shape.segment_box.Goals.{then-len-eq2, else-len-eq2}

pub returns : goal.returns
returns c =
    let wire = c.args.wire in
    let end = c.args.path.now.end in
    let rest = c.args.rest.now in
    let least = c.requires.least in
    let segment : (behind : ℤ) × (behind ≡ cond (eqb (length rest) 2) end wire.half)
    × (c.if-len-eq2.segment ≡ record {
      half = wire.half;
      before = wire.before;
      behind = behind;
    }) = elim c.if-len-eq2.branch [
      | then-len-eq2 w ↦ (
        end,
        sym (last_end (length rest) wire.half end (sym c.len.ensures ∙ w.if-len-eq2.true)),
        w.segment-is ∙ w.to_end_of-segment.ensures,
      )
      | else-len-eq2 w ↦ (
        wire.behind,
        c.requires.behind
            ∙ sym (inner_end (length rest) wire.half end (λ e. w.if-len-eq2.false (c.len.ensures ∙ e))),
        w.segment-is,
      )
    ] in
    segment_on wire c.if-len-eq2.segment end segment.0 rest _ _ c.box_along.result c.if_area.result
    least (c.at.ensures ∙ get_or_default rest 0 _ _ (omega (arith, least)))
    (c.at-2.ensures ∙ get_or_default rest 1 _ _ (omega (arith, least))) segment.1 segment.2 c.box_along.ensures
    c.if_area.ensures
