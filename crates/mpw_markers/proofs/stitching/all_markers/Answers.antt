-- Answers to the goals of `all_markers` in `src/stitching.rt`.
use Rattle.std.proofs.Common.{◌∙◌, ◌++◌, ap, sym, subst, List}
use Rattle.std.specs.Prelude.{All}
use Rattle.std.specs.List.{flat_map}
use Rattle.std.proofs.lemmas.List.{take_all}
use Rattle.std.proofs.lemmas.List.Elements.{All-append}
use Rattle.mpw_markers.specs.declared.marker.Marker.{Marker}
use Rattle.mpw_markers.specs.Markers.{IsFilled}
use Rattle.mpw_markers.proofs.Gathered.{flat_map_next}
use Rattle.mpw_markers.proofs.Referred.{seen}
use Rattle.mpw_markers.proofs.stitching.all_markers.Goals as goal

pub returns-clause-markers : goal.returns-clause-markers
returns-clause-markers c =
    c.loop-list.invariant.markers ∙ ap (flat_map (λ (list : List Marker). list))
    (take_all c.loop-list.list-index c.args.lists.now c.loop-list-test.false)

pub loop-list-preserved : goal.loop-list-preserved
loop-list-preserved c = record {
  markers = c.in_ok-add_all.ensures
      ∙ (λ k. c.loop-list.invariant.markers k ++ c.as_slice.ensures.markers k)
      ∙ flat_map_next (λ (list : List Marker). list) c.args.lists.now c.loop-list.list-index
      c.list-item.result c.loop-list-test.true c.list-item.is;
  filled = subst (All IsFilled) (sym c.in_ok-add_all.ensures)
      (All-append IsFilled (seen c.loop-list.all.items) c.as_slice.result.now c.loop-list.invariant.filled
      (subst (All IsFilled) (sym c.as_slice.ensures.markers) c.as_slice.ensures.filled));
}
