-- Answers to the goals of `Hierarchy::parts` in `src/hierarchy.rt`.
use Rattle.std.proofs.Common.{◌≡◌, ◌++◌, [], drop, sym, ap, subst, ◌∙◌, append-nil}
use Rattle.std.proofs.lemmas.List.{at_drop_all}
use Rattle.mpw_structures.specs.declared.element.Element.TheVariants as elements
use Rattle.mpw_hier.specs.Nodes.{IsTarget, AreChildren, none, shape_places}
use Rattle.mpw_hier.specs.Internal.Building.{IsSizeHere}
use Rattle.mpw_hier.specs.Values.{structure_items, flats}
use Rattle.mpw_hier.proofs.Parts.{shape_if, shapes_end, shapes_shape, shapes_reference, sizes_shape, sizes_reference, children_shape, children_empty, children_child, none_told, some_told, named_among, flats_length}
use Rattle.mpw_hier.proofs.hierarchy.Hierarchy.parts.Goals as goal
use Rattle.mpw_hier.proofs.hierarchy.Hierarchy.parts.Goals.{then-link-gt0+in_ok-push-3, else-link-gt0}

pub loop-element-preserved-in_default : goal.loop-element-preserved-in_default
loop-element-preserved-in_default c =
    let es = c.args.elements.now in
    let i = c.loop-element.element in
    let e = c.index-elements-element.result in
    let h = c.loop-element-test.true in
    let is = c.index-elements-element.is in
    let t = shape_if e c.in_default.not-Reference in
    let inv = c.loop-element.invariant in
    let ss = c.args.self.now.shelf.now in
    let s = c.args.self.now.submission.now in
    rw c.in_ok-push.ensures.items (
      shapes_shape es i e h is c.loop-element.shapes.items
          (shape_places 0 es) t inv.0,
      (
        children_shape es i e h is s (flats ss)
            c.args.self.now.nodes.items c.loop-element.children.items t inv.1.0,
        sizes_shape es i e h is (IsSizeHere ss s) c.loop-element.below.items t inv.1.1,
      ),
    )

pub link-link-requires-clause-known : goal.link-link-requires-clause-known
link-link-requires-clause-known c =
    let r = c.get.result.now in
    c.requires.known r.name (named_among c.args.elements.now c.loop-element.element
    c.index-elements-element.result r c.loop-element-test.true c.index-elements-element.is
    (c.in-Reference.is ∙ ap elements.Reference (sym c.get.ensures)))

pub loop-element-preserved : goal.loop-element-preserved
loop-element-preserved c =
    let es = c.args.elements.now in
    let i = c.loop-element.element in
    let e = c.index-elements-element.result in
    let h = c.loop-element-test.true in
    let is = c.index-elements-element.is in
    let r = c.get.result.now in
    let at = c.in-Reference.is ∙ ap elements.Reference (sym c.get.ensures) in
    let inv = c.loop-element.invariant in
    let ss = c.args.self.now.shelf.now in
    let s = c.args.self.now.submission.now in
    let nodes = c.args.self.now.nodes.items in
    let size = c.link-link.result.size in
    let own = c.link-link.ensures.size in
    let means = subst (λ n. IsTarget s n nodes r.name c.link-link.result.target)
    (sym (flats_length ss)) c.link-link.ensures.target in
    rw c.in_ok-push-2.ensures.items (
      shapes_reference es i e h is r c.loop-element.shapes.items (shape_places 0 es) at inv.0,
      (
        elim c.if-link-gt0.branch [
          | then-link-gt0+in_ok-push-3 w ↦ rw (w.children-is, w.in_ok-push-3.ensures.items)
              (children_child es i e h is s (flats ss) nodes c.loop-element.children.items r
              c.link-link.result.target at (some_told (structure_items (flats ss) s r.name)
              size.count own.count w.if-link-gt0.true) means inv.1.0)
          | else-link-gt0 w ↦ rw w.children-is
              (children_empty es i e h is s (flats ss) nodes c.loop-element.children.items r at
              (none_told (structure_items (flats ss) s r.name) size.count own.count
              w.if-link-gt0.false) inv.1.0)
        ],
        sizes_reference es i e h is (IsSizeHere ss s) r c.loop-element.below.items size at own
            inv.1.1,
      ),
    )

pub returns-clause-shapes : goal.returns-clause-shapes
returns-clause-shapes c =
    let es = c.args.elements.now in
    let i = c.loop-element.element in
    let all = at_drop_all (shape_places i) es i c.loop-element-test.false ∙ shapes_end i in
    sym (append-nil c.loop-element.shapes.items) ∙ ap (λ xs. c.loop-element.shapes.items ++ xs)
    (sym all) ∙ c.loop-element.invariant.0

pub returns-clause-children : goal.returns-clause-children
returns-clause-children c =
    let es = c.args.elements.now in
    let i = c.loop-element.element in
    let s = c.args.self.now.submission.now in
    let before = flats c.args.self.now.shelf.now in
    let nodes = c.args.self.now.nodes.items in
    let all : drop i es ≡ [] = at_drop_all (λ xs. xs) es i c.loop-element-test.false in
    subst (λ cs. AreChildren s before nodes 0 es cs) (append-nil c.loop-element.children.items)
    (c.loop-element.invariant.1.0 [] (rw all none))
