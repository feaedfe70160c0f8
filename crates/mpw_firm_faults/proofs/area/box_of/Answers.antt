-- Answers to the goals of `box_of` in `src/area.rt`.
use Rattle.std.proofs.Common.{◌∙◌, sym, ap, map, arith, [], ◌∷◌}
use Rattle.std.specs.Prelude.{fold, None}
use Rattle.std.specs.List.{range_with_len}
use Rattle.std.proofs.lemmas.List.FromFn.{map-range_with_len_more}
use Rattle.std.proofs.lemmas.List.Sums.{fold-append}
use Rattle.mpw_elements.specs.Values.{point_at}
use Rattle.mpw_firm_faults.specs.Areas.{holding}
use Rattle.mpw_firm_faults.proofs.area.box_of.Goals as goal

pub loop-place-preserved : goal.loop-place-preserved
loop-place-preserved c =
    let i = c.loop-place.place in
    let at = point_at c.args.unit c.args.bytes.now in
    c.holding-area.ensures ∙ ap (holding c.loop-place.area) c.point_of.ensures
    ∙ ap (λ a. holding a (at i)) c.loop-place.invariant
    ∙ sym (ap (fold holding None) (map-range_with_len_more at 0 i i (omega arith))
    ∙ fold-append holding None (map at (range_with_len 0 i)) (at i ∷ []))
