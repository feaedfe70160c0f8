-- The invariants of the loops of `Hierarchy::parts` in `src/hierarchy.rt`.
use Rattle.std.proofs.Common.{◌≡◌, ◌++◌, List, drop, take}
use Rattle.mpw_hier.specs.declared.node.Child.{Child}
use Rattle.mpw_hier.specs.Nodes.{AreChildren, shape_places}
use Rattle.mpw_hier.specs.Internal.Building.{AreSizesHere}
use Rattle.mpw_hier.specs.Values.{flats}
use Rattle.mpw_hier.proofs.hierarchy.Hierarchy.parts.Given as goal

-- what comes before the element, and what follows
abbrev pub invariant-loop-element : goal.invariant-loop-element
invariant-loop-element l =
    (l.shapes.items ++ shape_places l.element (drop l.element l.elements) ≡ shape_places 0
    l.elements)
    × (((rest : List Child) → AreChildren l.self.submission.now (flats l.self.shelf.now)
    l.self.nodes.items l.element (drop l.element l.elements) rest
    → AreChildren l.self.submission.now (flats l.self.shelf.now) l.self.nodes.items 0 l.elements
    (l.children.items ++ rest))
    × AreSizesHere l.self.shelf.now l.self.submission.now (take l.element l.elements) l.below.items)
