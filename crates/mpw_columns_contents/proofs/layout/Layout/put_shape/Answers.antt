-- Answers to the goals of `Layout::put_shape` in `src/opening.rt`.
use Rattle.std.proofs.Common.{Some, ap, sym, ◌∙◌}
use Rattle.std.specs.Prelude.{slice_get, option_map}
use Rattle.std.proofs.lemmas.Result.{on_ok_weaker}
use Rattle.mpw_hier.specs.Boxes.{placed_box}
use Rattle.mpw_walk.specs.Window.{is_met}
use Rattle.mpw_columns_contents.specs.declared.thing.Thing.TheVariants as things
use Rattle.mpw_columns_contents.specs.Things.{drawn, element_at, element_in, thing_items}
use Rattle.mpw_columns_contents.proofs.Adding.{adds_one, area_is, area_out, drawn_out, held_out, nothing_drawn, own_out, shows_same}
use Rattle.mpw_columns_contents.proofs.Layouts.{shape_is}
use Rattle.mpw_columns_contents.proofs.Read.{copied_none, copied_some}
use Rattle.mpw_columns_contents.proofs.layout.Layout.put_shape.Goals as goal

pub returns-then-is_missed : goal.returns-then-is_missed
returns-then-is_missed c =
    let l = c.args.self.now in
    let place = c.args.place in
    let missed = c.is_missed.ensures c.if-is_missed.true in
    held_out l c.args.placing (element_at (slice_get l.structures.now c.args.structure) place)
    missed.b c.args.seen.now.own c.args.things.now.items
    (c.requires.boxes place (Some missed.b) missed.at) c.requires.own missed.away

pub returns-in_default : goal.returns-in_default
returns-in_default c =
    let l = c.args.self.now in
    nothing_drawn l c.args.placing
    (element_at (slice_get l.structures.now c.args.structure) c.args.place) c.args.things.now.items
    (copied_none c.element.result _ c.in_default.is c.element.ensures.is)

pub returns-in_default-element_box : goal.returns-in_default-element_box
returns-in_default-element_box c =
    let l = c.args.self.now in
    let t = c.args.placing in
    drawn_out l t (element_at (slice_get l.structures.now c.args.structure) c.args.place)
    c.in-Some.element.now c.args.things.now.items
    (copied_some c.element.result c.in-Some.element _ c.in-Some.is c.element.ensures.is)
    (ap (λ b. is_met l.window (option_map (placed_box t) b))
    (sym c.element_box.ensures ∙ c.in_default-element_box.is))

pub returns-then-not-is_own_met : goal.returns-then-not-is_own_met
returns-then-not-is_own_met c =
    let l = c.args.self.now in
    own_out l c.args.placing
    (element_at (slice_get l.structures.now c.args.structure) c.args.place) c.in-Some.element.now
    c.in-Some-element_box.extent c.args.seen.now.own c.args.things.now.items
    (copied_some c.element.result c.in-Some.element _ c.in-Some.is c.element.ensures.is)
    (sym c.element_box.ensures ∙ c.in-Some-element_box.is) c.requires.own
    (c.is_own_met.ensures c.if-not-is_own_met.true)

pub returns-then-not-is_area_met : goal.returns-then-not-is_area_met
returns-then-not-is_area_met c =
    let l = c.args.self.now in
    let t = c.args.placing in
    let o = element_at (slice_get l.structures.now c.args.structure) c.args.place in
    area_out l t o c.area_of-area.result c.args.things.now.items
    (area_is t o c.in-Some.element.now c.in-Some-element_box.extent c.area_of-area.result
    (copied_some c.element.result c.in-Some.element _ c.in-Some.is c.element.ensures.is)
    (sym c.element_box.ensures ∙ c.in-Some-element_box.is) c.area_of-area.ensures)
    (c.is_area_met.ensures c.if-not-is_area_met.true)

pub returns : goal.returns
unfolding thing_items
returns c =
    let l = c.args.self.now in
    let t = c.args.placing in
    let area = c.area_of-area.result in
    let o = element_at (slice_get l.structures.now c.args.structure) c.args.place in
    let same = shape_is l c.requires.layout c.args.structure c.args.place in
    let thing = things.Shape (record {
      structure = c.args.structure;
      element = c.args.place;
      placing = t;
      area = area;
    }) in
    on_ok_weaker c.push.result
    (λ e. adds_one l (drawn t o) c.args.things.now.items c.push.new.things.items thing e
    c.requires.near
    (area_is t (element_in l.shelf.now c.args.structure c.args.place) c.in-Some.element.now
    c.in-Some-element_box.extent area
    (same ∙ copied_some c.element.result c.in-Some.element _ c.in-Some.is c.element.ensures.is)
    (sym c.element_box.ensures ∙ c.in-Some-element_box.is) c.area_of-area.ensures)
    (shows_same l.window (drawn t o) (thing_items l.shelf.now thing) (ap (drawn t) (sym same))))
    c.push.ensures.added
