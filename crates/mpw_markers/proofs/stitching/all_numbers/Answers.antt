-- Answers to the goals of `all_numbers` in `src/stitching.rt`.
use Rattle.std.proofs.Common.{◌∙◌, ◌++◌, Bor, ap}
use Rattle.std.specs.List.{flat_map}
use Rattle.std.proofs.lemmas.List.{take_all}
use Rattle.mpw_markers.specs.declared.marker.Marker.{Marker}
use Rattle.mpw_markers.proofs.Gathered.{flat_map_next}
use Rattle.mpw_markers.proofs.stitching.all_numbers.Goals as goal

pub loop-marker-preserved : goal.loop-marker-preserved
loop-marker-preserved c =
    c.in_ok-extend_from_slice.ensures.items
    ∙ (λ k. c.loop-marker.invariant k ++ c.as_slice.ensures.numbers k)
    ∙ flat_map_next (λ (m : Bor Marker). m.now.met) c.args.markers.now c.loop-marker.marker-index
    c.marker-item.result c.loop-marker-test.true c.marker-item.is

pub returns : goal.returns
returns c =
    c.loop-marker.invariant ∙ ap (flat_map (λ (m : Bor Marker). m.now.met))
    (take_all c.loop-marker.marker-index c.args.markers.now c.loop-marker-test.false)
