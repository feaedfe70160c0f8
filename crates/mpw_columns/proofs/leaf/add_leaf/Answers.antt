-- Answers to the goals of `add_leaf` in `src/leaf.rt`.
use Rattle.std.proofs.Common.{List, length, subst}
use Rattle.std.proofs.lemmas.Result.{on_ok_weaker}
use Rattle.mpw_job.specs.Answers.{listed_on}
use Rattle.mpw_columns.specs.declared.leaf.Banded.{Banded}
use Rattle.mpw_columns.specs.Internal.Bands.{banded_on}
use Rattle.mpw_columns.specs.Internal.Found.{AddsFirst}
use Rattle.mpw_columns.proofs.BandsLaid.{leaf_added}
use Rattle.mpw_columns.proofs.leaf.add_leaf.Goals as goal

pub returns : goal.returns
returns c =
    let look = c.args.look.now in
    on_ok_weaker c.add_rules.result
    (λ h. leaf_added look.rules.now look.layers.now look.distance look.axis
    (listed_on c.args.rectangles.now) c.args.core c.in_ok-banded.banded.items
    c.args.keys.now.items c.add_rules.new.keys.items c.requires c.in_ok-banded.ensures
    (subst (λ (bs : List Banded). AddsFirst (length look.rules.now) look.rules.now look.axis
    (banded_on bs) c.args.core c.args.keys.now.items c.add_rules.new.keys.items)
    c.as_slice.ensures.value h))
    c.add_rules.ensures
