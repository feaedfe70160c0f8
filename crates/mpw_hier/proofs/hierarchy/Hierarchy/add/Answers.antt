-- Answers to the goals of `Hierarchy::add` in `src/hierarchy.rt`.
use Rattle.std.proofs.Common.{◌≡◌, List, length, refl, sym, ap, subst, ◌∙◌, arith}
use Rattle.std.proofs.lemmas.Option.{slice_get_within}
use Rattle.mpw_structures.specs.declared.element.Element.{Element}
use Rattle.mpw_hier.specs.declared.node.Node.{Node}
use Rattle.mpw_hier.specs.Nodes.{AreChildren, shape_places, structure_levels}
use Rattle.mpw_hier.specs.Internal.Building.{AreKnown}
use Rattle.mpw_hier.specs.Values.{structure_items, flats, heights}
use Rattle.mpw_hier.proofs.Adding.{stands, told_sizes, elements_of, sizes_each, sizes_near, added_far, added_size, added_linked}
use Rattle.mpw_hier.proofs.hierarchy.Hierarchy.add.Goals as goal

pub parts-requires-clause-known : goal.parts-requires-clause-known
parts-requires-clause-known c =
    let v = c.args.self.now in
    let here = stands c.requires.place c.structures.ensures c.index-structures-place.is in
    subst (λ (es : List Element). AreKnown v.shelf.now v.submission.now v.numbers.items es)
    (sym c.as_slice.ensures) (c.requires.ready c.index-structures-place.result here.is)

pub size_of-requires : goal.size_of-requires
size_of-requires c =
    let v = c.args.self.now in
    let t = c.index-structures-place.result in
    let here = stands c.requires.place c.structures.ensures c.index-structures-place.is in
    let told = told_sizes v.shelf.now v.submission.now c.as_slice.ensures c.deref.ensures.value
    c.in_ok-parts.ensures.below in
    record {
      elements =
          elements_of v.submission.now.library c.args.place t c.requires.linked.library here.is;
      targets = sizes_each v.shelf.now v.submission.now t.elements _ told;
      near = sizes_near v.shelf.now v.submission.now t.elements _ told;
    }

pub returns-in_default-clause-far : goal.returns-in_default-clause-far
returns-in_default-clause-far c =
    λ _.
    let ss = c.args.self.now.shelf.now in
    let s = c.args.self.now.submission.now in
    let here = stands c.requires.place c.structures.ensures c.index-structures-place.is in
    let told = told_sizes ss s c.as_slice.ensures c.deref.ensures.value
    c.in_ok-parts.ensures.below in
    added_far c.requires.linked here
    (c.requires.ready c.index-structures-place.result here.is) c.requires.few
    (c.in_default.ensures.far (length (flats ss)) (structure_items (flats ss) s)
    (structure_levels (heights ss) s) told)

pub index_mut-requires : goal.index_mut-requires
index_mut-requires c =
    let s = c.args.self.now.submission.now in
    let p = c.requires.place in
    omega (
      arith,
      slice_get_within s.library c.args.place p.structure p.is,
      c.requires.linked.sized,
      c.args.self.now.numbers.ok.0,
    )

pub returns-clause-linked : goal.returns-clause-linked
returns-clause-linked c =
    let ss = c.args.self.now.shelf.now in
    let s = c.args.self.now.submission.now in
    let nodes = c.args.self.now.nodes.items in
    let parts = c.in_ok-parts.parts in
    let here = stands c.requires.place c.structures.ensures c.index-structures-place.is in
    let told = told_sizes ss s c.as_slice.ensures c.deref.ensures.value
    c.in_ok-parts.ensures.below in
    let known = c.requires.ready c.index-structures-place.result here.is in
    let size = added_size c.requires.linked here known c.requires.few c.in-Some.size
    (c.in-Some.ensures.size (length (flats ss)) (structure_items (flats ss) s)
    (structure_levels (heights ss) s) told) in
    let shapes = c.in_ok-parts.ensures.shapes ∙ ap (shape_places 0) c.as_slice.ensures in
    let children = subst (λ (es : List Element). AreChildren s (flats ss) nodes 0 es
    parts.children.items) c.as_slice.ensures c.in_ok-parts.ensures.children in
    let node : Node = record {
      structure = c.args.place;
      shapes = parts.shapes.items;
      children = parts.children;
      size = c.in-Some.size;
    } in
    let more =
    added_linked c.requires.linked here known c.requires.few node refl shapes children size in
    let last : c.len-number.result ≡ length nodes =
    omega (arith, c.len-number.ensures, c.args.self.now.nodes.ok.0) in
    rw (c.in_ok-push.ensures.items, c.into_node.ensures, last) more

pub returns-clause-one : goal.returns-clause-one
returns-clause-one c = record {
  node = c.into_node.result;
  added = c.in_ok-push.ensures.items;
  at = ap (λ (node : Node). node.structure) c.into_node.ensures;
}
