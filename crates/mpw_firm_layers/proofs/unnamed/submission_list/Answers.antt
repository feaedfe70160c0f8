-- Answers to the goals of `submission_list` in `src/unnamed.rt`.
use Rattle.std.proofs.Common.{◌≡◌, [], length, rules}
use Rattle.mpw_firm_layers.specs.Internal.Gathered.{node_layers, gathered}
use Rattle.mpw_firm_layers.proofs.Adding.{layers_tell, last_taken}
use Rattle.mpw_firm_layers.proofs.Values.{top_value}
use Rattle.mpw_firm_layers.proofs.unnamed.submission_list.Goals as goal

pub returns : goal.returns
returns c =
    let named = c.args.rules.now in
    let outer = c.args.outer.now in
    let lists = c.in_ok-lists.lists.items in
    let made = c.in_ok-lists.ensures in
    let full : length lists ≡ c.in_ok-lists.lists.len = search rules in
    last_taken lists c.in_ok-lists.lists.len (length c.unwrap-nodes.result.now) c.pop.result
    c.unwrap-2.result _ full made.many_are c.unwrap-2.ensures c.pop.ensures.value
    (top_value [] (gathered named) outer (node_layers named outer) (layers_tell named outer)
    c.names_are_shown.ensures c.args.shelf.now c.args.number c.requires.outer c.nodes.result
    c.unwrap-nodes.result c.unwrap-nodes.ensures c.nodes.ensures.some c.get.result c.unwrap.result
    c.unwrap.ensures c.get.ensures c.structures-structures.result.now
    c.structures-structures.ensures lists made)
