-- A block's grant is one of all.
use Rattle.std.proofs.Common.{◌∙◌, sym}
use Rattle.mpw_permissions.specs.Grant.{grant_eq}
use Rattle.mpw_permissions.proofs.BlockLemmas.{among}
use Rattle.mpw_permissions.proofs.grants.is_among.Goals as goal

pub returns-then-contains : goal.returns-then-contains
returns-then-contains c =
    sym (among (grant_eq c.args.grant.now) c.args.blocks.now c.loop-block.block-index
    c.block-item.result c.block-item.result c.loop-block-test.true c.block-item.is
    (sym c.contains.ensures ∙ c.if-contains.true))
