-- Answers to the goals of `layer_count` in `src/count.rt`.
use Rattle.std.proofs.Common.{ap, ◌∙◌}
use Rattle.std.specs.List.{sum_by}
use Rattle.mpw_seen.specs.Internal.Counts.{told}
use Rattle.mpw_firm_layers.specs.Internal.Counts.{root_number}
use Rattle.mpw_firm_layers.proofs.Counted.{roots_told}
use Rattle.mpw_firm_layers.proofs.count.layer_count.Goals as goal

pub returns : goal.returns
returns c =
    let numbers = c.in_ok-counts.counts.items in
    c.roots_number.ensures
    ∙ ap (λ ns. told (sum_by (root_number ns) c.args.roots.now)) c.deref.ensures.value
    ∙ roots_told c.names_are_shown.ensures c.args.shelf.now c.args.layer numbers
    c.in_ok-counts.ensures c.args.roots.now
