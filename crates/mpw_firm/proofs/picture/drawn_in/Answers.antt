-- Answers to the goals of `drawn_in` in `src/picture.rt`.
use Rattle.std.proofs.Common.{◌∙◌, ℕ, List, length, map, subst, sym}
use Rattle.std.specs.Prelude.{IfOk}
use Rattle.std.proofs.lemmas.List.{length-map}
use Rattle.mpw_geom.specs.declared.plane.Box2.{Box2}
use Rattle.mpw_markers.specs.declared.marker.Marker.{Marker}
use Rattle.mpw_firm_picture.specs.Drawn.{IsDrawnWith}
use Rattle.mpw_firm_report.specs.Content.{fault_of}
use Rattle.mpw_firm.specs.Shown.{areas_of, markers_of}
use Rattle.mpw_firm.proofs.picture.drawn_in.Goals as goal

pub returns : goal.returns
returns c =
    let checked = c.args.checked.now in
    let layout = c.args.layout.now in
    let book = markers_of checked.found.now.held in
    let told = map fault_of checked.faults.now in
    let view = c.args.view in
    let drawn = c.draw_with.result in
    let by_markers = subst (λ (ms : List Marker). IfOk drawn (IsDrawnWith layout ms c.as_slice.result.now
    (length checked.faults.now) view)) c.markers.ensures c.draw_with.ensures in
    let by_areas = subst (λ (boxes : List Box2). IfOk drawn (IsDrawnWith layout book boxes
    (length checked.faults.now) view))
    (c.as_slice.ensures.value ∙ c.in_ok-areas.ensures) by_markers in
    subst (λ (n : ℕ). IfOk drawn (IsDrawnWith layout book (areas_of told) n view))
    (sym (length-map checked.faults.now fault_of)) by_areas
