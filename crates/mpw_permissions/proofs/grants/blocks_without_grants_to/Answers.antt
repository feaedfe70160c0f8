-- Each block is filtered by itself.
use Rattle.std.proofs.Common.{◌∙◌, ◌++◌, not}
use Rattle.mpw_geom.specs.Names.{name_eq}
use Rattle.mpw_permissions.specs.declared.permission.Grant.{Grant}
use Rattle.mpw_permissions.proofs.BlockLemmas.{kept-next}
use Rattle.mpw_permissions.proofs.grants.blocks_without_grants_to.Goals as goal

pub loop-block-preserved : goal.loop-block-preserved
loop-block-preserved c =
    c.in_ok-keep.ensures
    ∙ (λ i. c.loop-block.invariant i ++ c.in_ok-without_grants_to.ensures i)
    ∙ kept-next (λ (grant : Grant). not (name_eq c.args.role.now grant.role)) c.args.blocks.now
    c.loop-block.block-index c.block-item.result c.block-item.result c.loop-block-test.true
    c.block-item.is
