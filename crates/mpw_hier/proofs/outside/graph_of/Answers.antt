-- Answers to the goals of `graph_of` in `src/outside.rt`.
use Rattle.std.proofs.Common.{◌≡◌, map, take, ap, ◌∙◌, take_all}
use Rattle.mpw_hier.specs.Outside.{places_from, graph_of}
use Rattle.mpw_hier.proofs.outside.graph_of.Goals as goal

pub returns : goal.returns
unfolding graph_of
returns c =
    let ss = c.args.library.now in
    let items = c.structures-structure-items.result.now in
    let all : take c.loop-structure.structure-index items ≡ ss =
    take_all c.loop-structure.structure-index items c.loop-structure-test.false
    ∙ c.structures-structure-items.ensures in
    c.loop-structure.invariant ∙ ap (map (places_from ss)) all
