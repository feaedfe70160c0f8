-- Answers to the goals of `met_by` in `src/stitching.rt`.
use Rattle.std.proofs.Common.{◌∙◌, Bor, sym}
use Rattle.std.proofs.lemmas.List.Folds.{flat_map-map}
use Rattle.mpw_markers.specs.declared.marker.Marker.{Marker}
use Rattle.mpw_markers.proofs.Gathered.{met_from_result}
use Rattle.mpw_markers.proofs.Referred.{seen}
use Rattle.mpw_markers.proofs.stitching.met_by.Goals as goal

pub returns : goal.returns
returns c = met_from_result (seen c.args.markers.now) c.in_ok-numbers.numbers.items c.from_vec.result
    (c.in_ok-numbers.ensures
    ∙ sym (flat_map-map (λ (m : Marker). m.met) (λ (m : Bor Marker). m.now) c.args.markers.now))
    c.from_vec.ensures.ascending c.from_vec.ensures.same
