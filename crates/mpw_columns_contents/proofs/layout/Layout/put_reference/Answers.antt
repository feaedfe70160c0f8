-- Answers to the goals of `Layout::put_reference` in `src/opening.rt`.
use Rattle.std.proofs.Common.{◌≡◌, Some, sym, ap, ◌∙◌, subst, map}
use Rattle.std.specs.Prelude.{slice_get}
use Rattle.std.proofs.lemmas.Result.{on_ok_weaker}
use Rattle.mpw_structures.specs.Places.{place_of}
use Rattle.mpw_hier.specs.declared.node.Node.{Node}
use Rattle.mpw_hier.specs.Items.{placed_item, placed_items}
use Rattle.mpw_walk.proofs.Fronts.{found, one}
use Rattle.mpw_columns_contents.specs.Things.{thing_items}
use Rattle.mpw_columns_contents.specs.declared.thing.Thing.TheVariants as things
use Rattle.mpw_columns_contents.specs.Internal.Making.{LeadsTo, IsOwnTarget}
use Rattle.mpw_columns_contents.specs.Internal.Opening.{name_shown}
use Rattle.mpw_columns_contents.proofs.Adding.{adds_same}
use Rattle.mpw_columns_contents.proofs.Layouts.{reference_placed}
use Rattle.mpw_columns_contents.proofs.layout.Layout.put_reference.Goals as goal

pub put_array-requires-clause-array : goal.put_array-requires-clause-array
put_array-requires-clause-array c =
    let nodes = c.args.self.now.nodes.now in
    record {
      node = c.in-Some.node.now;
      at = subst (λ place. slice_get nodes place ≡ Some c.in-Some.node.now)
          (sym c.placed_array-array.ensures.node)
          (found nodes c.in-Own.place c.get.result c.in-Some.node c.in-Some.is
          c.get.ensures.lookup.0 c.get.ensures.lookup.1);
      structure = sym c.placed_array-array.ensures.structure;
      near = c.is_in_plane.ensures.0 c.if-not-is_in_plane.false;
    }

pub returns : goal.returns
returns c =
    let l = c.args.self.now in
    let r = c.args.reference.now in
    let place = c.in-Own.place in
    let node = c.in-Some.node.now in
    let a = c.placed_array-array.result in
    let at = found l.nodes.now place c.get.result c.in-Some.node c.in-Some.is c.get.ensures.lookup.0
    c.get.ensures.lookup.1 in
    let target : IsOwnTarget l r.name place = subst (λ t. LeadsTo l r.name t) c.in-Own.is
    c.requires.target in
    let same = one (slice_get l.nodes.now place) target.node node target.at at in
    let named : place_of l.structures.now r.name ≡ Some node.structure = target.named
    ∙ ap (λ (n : Node). Some n.structure) same in
    on_ok_weaker c.put_array.result
    (λ h. adds_same l (thing_items l.shelf.now (things.Array a))
    (map (placed_item c.args.placing) (placed_items r (name_shown l.shelf.now r.name)))
    c.args.things.now.items c.put_array.new.things.items
    (sym (reference_placed l c.requires.layout c.args.placing r a node place at named
    c.placed_array-array.ensures.structure c.placed_array-array.ensures.placed)) h)
    c.put_array.ensures
