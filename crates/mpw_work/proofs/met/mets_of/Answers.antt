-- Answers to the goals of `mets_of` in `src/met.rt`.
use Rattle.std.proofs.Common.{List, sym, subst, ◌∙◌}
use Rattle.std.specs.Prelude.{All}
use Rattle.std.proofs.lemmas.List.Elements.{All-map}
use Rattle.mpw_geom.specs.declared.plane.Box2.{Box2}
use Rattle.mpw_geom.specs.Plane.{IsOrdered}
use Rattle.mpw_markers.specs.declared.search.Rectangle.{Rectangle as Located}
use Rattle.mpw_markers.specs.Origins.{AreMetOrigins}
use Rattle.mpw_work.specs.Internal.Found.{key_box}
use Rattle.mpw_work.proofs.Meeting.{tell_met}
use Rattle.mpw_work.proofs.met.mets_of.Goals as goal

pub met_origins-requires-clause-ordered : goal.met_origins-requires-clause-ordered
met_origins-requires-clause-ordered c =
    subst (λ (bs : List Box2). All IsOrdered bs)
    (sym (c.as_slice-2.ensures.value ∙ c.in_ok-boxes.ensures))
    (All-map IsOrdered key_box c.args.keys.now c.requires)

pub returns : goal.returns
returns c =
    let found = c.in_ok-rectangles.rectangles.items in
    let boxes = c.in_ok-boxes.boxes.items in
    let mets = c.in_ok-mets.mets.items in
    tell_met c.args.window.now found c.args.keys.now boxes mets
    (record {
      areas = c.in_ok-rectangles.ensures.areas;
      squares = c.in_ok-rectangles.ensures.squares;
    }) c.in_ok-boxes.ensures
    (subst (λ (rs : List Located). AreMetOrigins rs boxes mets) c.as_slice.ensures.value
    (subst (λ (bs : List Box2). AreMetOrigins c.as_slice.result.now bs mets)
    c.as_slice-2.ensures.value c.in_ok-mets.ensures))
