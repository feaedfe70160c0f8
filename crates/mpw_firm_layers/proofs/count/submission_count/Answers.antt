-- Answers to the goals of `submission_count` in `src/count.rt`.
use Rattle.std.proofs.Common.{◌-◌, length, ap, ◌∙◌}
use Rattle.std.specs.Prelude.{slice_index}
use Rattle.mpw_firm_layers.proofs.Counted.{count_told}
use Rattle.mpw_firm_layers.proofs.count.submission_count.Goals as goal

pub returns : goal.returns
returns c =
    c.number_at.ensures
    ∙ ap (λ numbers. slice_index numbers (length c.unwrap-nodes.result.now - 1))
    c.deref.ensures.value
    ∙ count_told c.args.layer c.names_are_shown.ensures c.args.shelf.now c.args.number
    c.nodes.result c.unwrap-nodes.result c.unwrap-nodes.ensures c.nodes.ensures.some c.get.result
    c.unwrap.result c.unwrap.ensures c.get.ensures c.structures-structures.result.now
    c.structures-structures.ensures c.args.outer.now c.requires.outer c.in_ok-numbers.numbers.items
    c.in_ok-numbers.ensures
